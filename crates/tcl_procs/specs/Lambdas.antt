-- What a lambda is read as: apply(n).
use Rattle.tcl_list.specs.Elements.{elements_of}
use Rattle.tcl_pages.specs.Answers.{Answer, ◌>>=◌}
use Rattle.tcl_pages.specs.Texts.{Text}
use Rattle.tcl_meaning.specs.ProcedurePages.{lambda_of}
use Rattle.tcl_meaning.specs.Procedures.{procedure_of}
use Rattle.tcl_meaning.specs.State.{Procedure}

-- the procedure of its formals and its body
abbrev pub lambda_procedure : Text → Answer Procedure
lambda_procedure t = lambda_of t (elements_of t) >>= λ parts. procedure_of parts.0 parts.1
