-- What is said of a code that nothing takes.
use Rattle.std.proofs.Common.{◌≡◌, ℤ, [], ◌++◌, refl}
use Rattle.tcl_chars.specs.Texts.{literal}
use Rattle.tcl_meaning.specs.Completions.{failure, bad_code}
use Rattle.tcl_pages.specs.Texts.{Text, number_text}

pub bad_code_said : (z : ℤ) (t0 t1 t2 t3 n : Text) → t0 ≡ [] → t1 ≡ t0 ++ literal "command returned bad code: " → t2 ≡ t1 ++ n → n ≡ number_text z → t3 ≡ t2 → failure t3 ≡ bad_code z
bad_code_said z t0 t1 t2 t3 n e0 e1 e2 en e3 = rw (e3, e2, e1, e0, en) refl
