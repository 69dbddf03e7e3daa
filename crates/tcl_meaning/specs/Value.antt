-- Programs whose value may be missing, with the completion that stands in its place.
use Rattle.std.specs.Prelude.{Bool, ◌++◌, Result, Ok, Err}
use Rattle.tcl_pages.specs.Texts.{Text}
use Rattle.tcl_meaning.specs.State.{Store, Change, Output}
use Rattle.tcl_meaning.specs.Completions.{Completion, normal, failure}
use Rattle.tcl_meaning.specs.Input.{Want}
use Rattle.tcl_meaning.specs.Effects.{Scope, Prog, Give, Look, Make, Write, Take, HasEnded, Call, ◌>>=◌ as andthen}

pub data Value (A : Type 0) : Type 0 where
  Has : A → Value A
  Fails : Completion → Value A

abbrev pub on_value : {T A B : Type 0} → (A → Prog T (Value B)) → Value A → Prog T (Value B)
on_value f (Has a) = f a
on_value f (Fails c) = Give (Fails c)

infixl 10 ◌>>=◌
abbrev pub ◌>>=◌ : {T A B : Type 0} → Prog T (Value A) → (A → Prog T (Value B)) → Prog T (Value B)
p >>= f = andthen p (on_value f)

module _ {T : Type 0} where
  abbrev pub give : {A : Type 0} → A → Prog T (Value A)
  give a = Give (Has a)

  abbrev pub fail : {A : Type 0} → Completion → Prog T (Value A)
  fail c = Give (Fails c)

  -- a value, or the error of a message
  abbrev pub judged : {A : Type 0} → Result A Text → Prog T (Value A)
  judged (Ok a) = give a
  judged (Err message) = fail (failure message)

  abbrev pub look : Prog T (Value Store)
  look = Look (λ s. give s)

  abbrev pub make : Change → Prog T (Value (Unit {0}))
  make ch = Make ch (give tt)

  abbrev pub write : Output → Text → Prog T (Value (Unit {0}))
  write o t = Write o t (give tt)

  abbrev pub take_input : Want → Prog T (Value Text)
  take_input want = Take want (λ t. give t)

  abbrev pub has_ended : Prog T (Value Bool)
  has_ended = HasEnded (λ b. give b)

  abbrev pub call : Scope → T → Prog T (Value Completion)
  call scope task = Call scope task (λ c. give c)

-- the text that a program gives, behind another
abbrev pub behind : {T : Type 0} → Text → Prog T (Value Text) → Prog T (Value Text)
behind front p = p >>= λ t. give (front ++ t)

-- a value's text as a completion
abbrev pub completed : Value Text → Completion
completed (Has t) = normal t
completed (Fails c) = c
