use Rattle.std.proofs.Common.{rules}
use Rattle.std.specs.Str.{chars}
use Rattle.tcl_glob.proofs.Sought.{goes_on, fits_there, fits_behind, fits_nowhere}
use Rattle.tcl_glob.proofs.glob.first_fit.Goals as goal

pub returns-in-Some : goal.returns-in-Some
returns-in-Some c = fits_there (chars c.args.pattern.now) (chars c.args.text.now) (chars c.places.rest.now) (chars c.to_fit-place.result.now) _ _ c.to_fit-place.ensures c.places.invariant.same c.in-Some.ensures

pub returns-in_default-split_first : goal.returns-in_default-split_first
returns-in_default-split_first c =
    fits_nowhere (chars c.args.pattern.now) (chars c.args.text.now) (chars c.places.rest.now) (chars c.to_fit-place.result.now) c.to_fit-place.ensures c.in_default-split_first.ensures.parts c.in_default.ensures c.places.invariant.same

pub places-smaller : goal.places-smaller
places-smaller c = goes_on (chars c.args.pattern.now) (chars c.places.rest.now) (chars c.to_fit-place.result.now) _ _ c.to_fit-place.ensures c.in-Some-split_first.ensures.parts.in_chars

pub places-preserved : goal.places-preserved
places-preserved c = record {
  text = search rules;
  same =
      fits_behind (chars c.args.pattern.now) (chars c.args.text.now) (chars c.places.rest.now) (chars c.to_fit-place.result.now) _ _ c.to_fit-place.ensures c.in-Some-split_first.ensures.parts.in_chars c.in_default.ensures
      c.places.invariant.same;
}
