use Rattle.std.proofs.Common.{subst, sym}
use Rattle.std.proofs.lemmas.Str.{IsUtf8-string_bytes}
use Rattle.std.specs.String.{string_bytes}
use Rattle.tcl_values.specs.Marks.{AreMarks}
use Rattle.tcl_values.proofs.Beginnings.{marks_behind}
use Rattle.tcl_values.proofs.value.Growing.push.Goals as goal

pub follow-requires : goal.follow-requires
follow-requires c =
    subst (AreMarks c.args.self.now.marks.before.items) (sym c.as_str.ensures.value)
    (marks_behind c.args.self.now.marks.before.items (string_bytes c.args.self.now.text) c.args.more.now (string_bytes c.push_text.new.text)
    (IsUtf8-string_bytes c.args.self.now.text) c.utf8.more (IsUtf8-string_bytes c.push_text.new.text) c.in_ok-push_text.ensures.ok c.requires.marks)
