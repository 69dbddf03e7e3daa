-- Sets of names.
pub use Rattle.tcl_names.specs.Placed.{with_names}
