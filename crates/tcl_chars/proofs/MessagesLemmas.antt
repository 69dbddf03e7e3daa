-- What is written piece by piece is the sentence.
use Rattle.std.proofs.Common.{◌≡◌, ℕ, List, [], ◌++◌, Result, Ok, Err, IfOk, ap, ◌∙◌, append_assoc}
use Rattle.std.specs.Rc.{rc_str_bytes}
use Rattle.std.specs.Str.{chars}
use Rattle.std.specs.declared.rc.RcStr.{RcStr}
use Rattle.tcl_chars.specs.Messages.{about}
use Rattle.tcl_chars.specs.Texts.{literal, text_of}

-- five pieces, each written behind those before
pub wrote_about : (m0 m1 m2 m3 m4 m5 before word after : List ℕ) → m0 ≡ [] → m1 ≡ m0 ++ before → m2 ≡ m1 ++ literal " \"" → m3 ≡ m2 ++ word → m4 ≡ m3 ++ literal "\"" → m5 ≡ m4 ++ after → m5 ≡ about before word after
unfolding about
wrote_about m0 m1 m2 m3 m4 m5 before word after e0 e1 e2 e3 e4 e5 =
    rw (e5, e4, e3, e2, e1, e0) (simp append_assoc)

-- a shared text with the bytes bs has their characters
pub says : {Z E : Type 0} (r : Result (RcStr Z) E) (bs cs : List ℕ) → IfOk r (λ s. rc_str_bytes s ≡ bs) → chars bs ≡ cs → IfOk r (λ s. text_of s ≡ cs)
says (Ok s) bs cs h e = ap chars h ∙ e
says (Err x) bs cs h e = tt
