-- Words two by two: patterns with their bodies.
pub use Rattle.tcl_pages.specs.Dictionaries.{pairs as pairs_in}
