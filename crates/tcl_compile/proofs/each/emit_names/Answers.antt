use Rattle.std.proofs.Common.{◌<◌, ◌++◌, [], ◌∷◌, length, map, ap, ◌∙◌, arith}
use Rattle.std.proofs.lemmas.List.{length-map}
use Rattle.std.specs.Str.{chars}
use Rattle.tcl_list.specs.Texts.{text_of}
use Rattle.tcl_code.specs.Instructions.{Write}
use Rattle.tcl_compile.proofs.EachEmits.{takes_next, takes_end}
use Rattle.tcl_compile.proofs.Parsing.{map_at}
use Rattle.tcl_compile.proofs.each.emit_names.Goals as goal

pub names-preserved : goal.names-preserved
names-preserved c =
    let ns = map text_of c.args.names.now in
    let lt : c.names.name-index < length ns = omega (arith, length-map c.args.names.now text_of) in
    let at = map_at text_of c.args.names.now c.names.name-index c.name-item.result c.name-item.is in
    let written = c.in_ok-write.ensures.done ∙ ap (λ t. c.emit.new.self ++ Write (chars t) ∷ []) c.as_str.ensures.value in
    takes_next ns c.names.name-index (text_of c.name-item.result) c.args.code.now c.names.code c.emit.new.self c.write.new.self lt at c.names.invariant c.in_ok-emit.ensures.done written

pub returns : goal.returns
returns c = takes_end (map text_of c.args.names.now) c.names.name-index c.args.code.now c.names.code (omega (arith, length-map c.args.names.now text_of)) c.names.invariant
