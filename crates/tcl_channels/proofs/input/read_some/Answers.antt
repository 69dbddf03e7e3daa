use Rattle.std.specs.Str.{chars}
use Rattle.tcl_channels.specs.Orders.{from_input, counted_page}
use Rattle.tcl_channels.proofs.NameLemmas.{orders_of}
use Rattle.tcl_channels.proofs.ReadLemmas.{input_given}
use Rattle.tcl_channels.proofs.input.read_some.Goals as goal

pub returns : goal.returns
returns c =
    let page = counted_page c.args.dialect (chars c.args.count.now) in
    orders_of _ (from_input (chars c.args.channel.now) page) page c.counted.result (input_given (chars c.args.channel.now) page c.in_ok-input_named.ensures) c.counted.ensures
