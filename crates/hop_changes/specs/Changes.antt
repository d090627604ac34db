-- What is counted of the ordered pair at place i of the distances of two stored states of n nodes, s and t. Used by the code's own contracts; a buyer needs none of it.
use Rattle.std.specs.Prelude.{not, ◌&&◌, List, ℕ, ltb, if◌then◌else◌}
use Rattle.hop_rule.specs.declared.Table.TheVariants.{Distances}
use Rattle.hop_cells.specs.Cells.{get}

-- 1 where it has a route in s and none in t.
unfoldable pub lost_at : ℕ → List ℕ → List ℕ → ℕ → ℕ
lost_at n s t i = if ltb (get n Distances i s) n && not (ltb (get n Distances i t) n) then 1 else 0

-- Its hops in s, where it has a route in both.
unfoldable pub hops_at : ℕ → List ℕ → List ℕ → ℕ → ℕ
hops_at n s t i = if ltb (get n Distances i s) n && ltb (get n Distances i t) n then get n Distances i s else 0
