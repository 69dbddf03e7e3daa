use Rattle.std.proofs.Common.{◌≡◌, ◌-◌, ◌≤◌, length, map, take}
use Rattle.tcl_chars.specs.Texts.{text_of}
use Rattle.tcl_arguments.proofs.texts.all_texts.Given as goal

abbrev pub invariant-loop-place : goal.invariant-loop-place
invariant-loop-place l = record {
  in_words : l.place ≤ length l.words;
  texts : map text_of l.texts.items ≡ take l.place l.fn.words;
  same : l.words ≡ l.fn.words;
}

abbrev pub decreases-loop-place : goal.decreases-loop-place
decreases-loop-place l = length l.words - l.place
