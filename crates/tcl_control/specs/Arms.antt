-- Patterns and bodies of switch(n) as texts, wherever they stand.
use Rattle.std.specs.Prelude.{List}
use Rattle.tcl_control.specs.declared.arms.Arms.{Arms}
use Rattle.tcl_control.specs.declared.arms.Arms.TheVariants as arms
use Rattle.tcl_pages.specs.Texts.{Text}
use Rattle.tcl_values.specs.Kept.{texts}

abbrev pub arm_texts : Arms → List Text
arm_texts (arms.Words words) = words.now
arm_texts (arms.Elements elements) = texts elements.now
