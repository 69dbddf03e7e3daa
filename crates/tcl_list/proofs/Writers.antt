-- What a writer did to a text, part by part.
use Rattle.std.proofs.Common.{◌≡◌, ℕ, List, [], ◌++◌, Result, Ok, Err, sym, ap, ◌∙◌, append_assoc}
use Rattle.std.proofs.lemmas.List.{append-nil}
use Rattle.std.specs.Prelude.{OnOk, OnErr}
use Rattle.std.specs.Str.{chars}
use Rattle.tcl_list.specs.Texts.{WritesBehind}

-- a writer of one part
pub wrote : {X E : Type 0} (r : Result X E) (old new said : List ℕ) → OnOk r (chars new ≡ chars old ++ said) → OnErr r (new ≡ old) → WritesBehind (chars old) (chars new) said r
wrote (Ok x) old new said h same = h
wrote (Err e) old new said h same = record { more = []; joined = ap chars same ∙ sym (append-nil (chars old)) }

-- a part written behind another
pub wrote_behind : {X E : Type 0} (r : Result X E) (old mid new front said : List ℕ) → mid ≡ old ++ front → WritesBehind mid new said r → WritesBehind old new (front ++ said) r
wrote_behind (Ok x) old mid new front said m h = h ∙ ap (λ t. t ++ said) m ∙ append_assoc old front said
wrote_behind (Err e) old mid new front said m h = record { more = front ++ h.more; joined = h.joined ∙ ap (λ t. t ++ h.more) m ∙ append_assoc old front h.more }
