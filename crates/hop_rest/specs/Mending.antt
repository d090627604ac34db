-- What holds in the middle of an event: sound, but that the tables may be stale for some pairs of node and destination. The proofs that events keep a state sound speak of it; no claim on the other pages needs it. Uses hop_rule's Sound and hop_laws' Current.
use Rattle.std.specs.Prelude.{◌≡◌, List, [], ℕ, ◌≤◌, ◌<◌}
use Rattle.hop_rule.specs.State.{State, Entry}
use Rattle.hop_rule.specs.Sound.{Linked, Sends, Waits, Differ, Each}
use Rattle.hop_laws.specs.Current.{Current}

-- What a queue in use is sound by: the sender's distances, the receiver's views of what they were, and the entries between them.
pub record Brings (n : ℕ) (distance view : ℕ → ℕ) (q : List Entry) : Type 0 where
  pub differ : Differ q
  pub entries : Each (λ e. (e.destination < n) × (e.value ≡ distance e.destination)) q
  pub heard : (v : ℕ) → v < n → (Waits v q → ⊥) → view v ≡ distance v

-- All of sound but the tables.
pub record Steady (s : State) : Type 0 where
  pub bits : (u w : ℕ) → u < s.n → w < s.n → s.link u w ≤ 1
  pub diagonal : (u : ℕ) → u < s.n → s.link u u ≡ 0
  pub views : (u w v : ℕ) → u < s.n → w < s.n → v < s.n → s.view u w v ≤ s.n
  pub down_views : (u w v : ℕ) → u < s.n → w < s.n → v < s.n → (Linked s u w → ⊥) → s.view u w v ≡ s.n
  pub down_queues : (u w : ℕ) → u < s.n → w < s.n → (Sends s w u → ⊥) → s.queue w u ≡ []
  pub brings : (u w : ℕ) → u < s.n → w < s.n → Sends s w u → Brings s.n (s.distance w) (s.view u w) (s.queue w u)

-- Sound, but that the pairs of P may be stale.
pub record SoundBut (P : ℕ → ℕ → Type 0) (s : State) : Type 0 where
  pub steady : Steady s
  pub current : (u v : ℕ) → u < s.n → v < s.n → (P u v → ⊥) → Current s u v
