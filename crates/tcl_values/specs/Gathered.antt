-- Elements that are gathered to be a list.
use Rattle.std.specs.Prelude.{ℕ, ◌≤◌, List}
use Rattle.tcl_values.specs.Kept.{texts, depth_over}
use Rattle.tcl_values.specs.declared.gathering.Gathering.TheInside as gathering

abbrev pub gathered_texts : gathering.Inside → List (List ℕ)
gathered_texts a = texts a.items.items

-- A list of them is no deeper than is said.
pub record IsGathering (a : gathering.Inside) : Type 0 where
  pub limit : a.depth ≤ 64
  pub deeper : depth_over a.items.items ≤ a.depth
