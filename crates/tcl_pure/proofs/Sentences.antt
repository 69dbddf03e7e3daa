-- What is written piece by piece is the sentence.
use Rattle.std.proofs.Common.{◌≡◌, [], ◌++◌, List, refl}
use Rattle.tcl_chars.specs.Messages.{about}
use Rattle.tcl_chars.specs.Texts.{literal}
use Rattle.tcl_pure.specs.Names.{names_to_choose}
use Rattle.tcl_meaning.specs.Ensembles.{ensemble_name, subcommands, subcommand_usage, unknown_subcommand}
use Rattle.tcl_meaning.specs.declared.page.Ensemble.{Ensemble}
use Rattle.tcl_meaning.specs.declared.page.Page.{Page}
use Rattle.tcl_pages.specs.Texts.{Text}

pub wrote_choices : (e : Ensemble) (word t0 t1 t2 : Text) (entries : List (Text × Page)) → t0 ≡ [] → t1 ≡ t0 ++ literal ": must be " → t2 ≡ t1 ++ names_to_choose entries → entries ≡ subcommands e
    → about (literal "unknown or ambiguous subcommand") word t2 ≡ unknown_subcommand e word
wrote_choices e word t0 t1 t2 entries e0 e1 e2 e3 = rw (e2, e1, e0, e3) refl

pub wrote_usage : (e : Ensemble) (t0 t1 name : Text) → t0 ≡ [] → t1 ≡ t0 ++ name ++ literal " subcommand ?arg ...?" → name ≡ ensemble_name e → t1 ≡ subcommand_usage e
wrote_usage e t0 t1 name e0 e1 e2 = rw (e1, e0, e2) refl
