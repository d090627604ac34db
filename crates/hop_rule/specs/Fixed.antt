-- 01, 'What the contracts have to settle': any two outcomes that a contract allows are equal. A contract is a promise about the answer and about what the call leaves in the buffers that it may write to. Uses nothing of this crate.
use Rattle.std.specs.Prelude.{◌≡◌}

-- A promise about an answer r and what is left, l, fixes both.
abbrev pub Fixed : {R L : Type 0} → (R → L → Type 0) → Type 0
Fixed {R} {L} Promise = (r s : R) (l m : L) → Promise r l → Promise s m → (r ≡ s) × (l ≡ m)

-- The same for a call that may write to no buffer.
abbrev pub FixedAnswer : {R : Type 0} → (R → Type 0) → Type 0
FixedAnswer {R} Promise = (r s : R) → Promise r → Promise s → r ≡ s
