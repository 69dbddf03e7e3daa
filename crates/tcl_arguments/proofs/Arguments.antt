-- Arguments by their places.
use Rattle.std.proofs.Common.{◌≡◌, ◌≢◌, ◌≤◌, ◌<◌, List, [], ◌∷◌, length, slice_get, Some, None, Ok, refl, arith}
use Rattle.tcl_arguments.specs.UpToOne.{up_to_one}
use Rattle.tcl_arguments.specs.WordAt.{word}
use Rattle.tcl_pages.specs.Arguments.{one_argument, two_arguments, three_arguments, one_or_two, two_or_three, three_or_four}
use Rattle.tcl_pages.specs.Texts.{Text}
use Rattle.tcl_pages.specs.Usage.{usage}

pub is_one : (u : Text) (ws : List Text) → length ws ≡ 1 → one_argument u ws ≡ Ok (word ws 0)
is_one u [] h = absurd (omega arith)
is_one u (a ∷ []) h = refl
is_one u (a ∷ b ∷ ws) h = absurd (omega arith)

pub not_one : (u : Text) (ws : List Text) → length ws ≢ 1 → one_argument u ws ≡ usage u
not_one u [] h = refl
not_one u (a ∷ []) h = absurd (h refl)
not_one u (a ∷ b ∷ ws) h = refl

pub are_two : (u : Text) (ws : List Text) → length ws ≡ 2 → two_arguments u ws ≡ Ok (word ws 0, word ws 1)
are_two u [] h = absurd (omega arith)
are_two u (a ∷ []) h = absurd (omega arith)
are_two u (a ∷ b ∷ []) h = refl
are_two u (a ∷ b ∷ c ∷ ws) h = absurd (omega arith)

pub not_two : (u : Text) (ws : List Text) → length ws ≢ 2 → two_arguments u ws ≡ usage u
not_two u [] h = refl
not_two u (a ∷ []) h = refl
not_two u (a ∷ b ∷ []) h = absurd (h refl)
not_two u (a ∷ b ∷ c ∷ ws) h = refl

pub are_three : (u : Text) (ws : List Text) → length ws ≡ 3 → three_arguments u ws ≡ Ok (word ws 0, word ws 1, word ws 2)
are_three u [] h = absurd (omega arith)
are_three u (a ∷ []) h = absurd (omega arith)
are_three u (a ∷ b ∷ []) h = absurd (omega arith)
are_three u (a ∷ b ∷ c ∷ []) h = refl
are_three u (a ∷ b ∷ c ∷ d ∷ ws) h = absurd (omega arith)

pub not_three : (u : Text) (ws : List Text) → length ws ≢ 3 → three_arguments u ws ≡ usage u
not_three u [] h = refl
not_three u (a ∷ []) h = refl
not_three u (a ∷ b ∷ []) h = refl
not_three u (a ∷ b ∷ c ∷ []) h = absurd (h refl)
not_three u (a ∷ b ∷ c ∷ d ∷ ws) h = refl

-- ---- the last may be left out

pub one_and_maybe : (u : Text) (ws : List Text) → 1 ≤ length ws → length ws ≤ 2 → one_or_two u ws ≡ Ok (word ws 0, slice_get ws 1)
one_and_maybe u [] h k = absurd (omega arith)
one_and_maybe u (a ∷ []) h k = refl
one_and_maybe u (a ∷ b ∷ []) h k = refl
one_and_maybe u (a ∷ b ∷ c ∷ ws) h k = absurd (omega arith)

pub too_few_for_one : (u : Text) (ws : List Text) → length ws < 1 → one_or_two u ws ≡ usage u
too_few_for_one u [] h = refl
too_few_for_one u (a ∷ ws) h = absurd (omega arith)

pub too_many_for_two : (u : Text) (ws : List Text) → 2 < length ws → one_or_two u ws ≡ usage u
too_many_for_two u [] h = absurd (omega arith)
too_many_for_two u (a ∷ []) h = absurd (omega arith)
too_many_for_two u (a ∷ b ∷ []) h = absurd (omega arith)
too_many_for_two u (a ∷ b ∷ c ∷ ws) h = refl

pub two_and_maybe : (u : Text) (ws : List Text) → 2 ≤ length ws → length ws ≤ 3 → two_or_three u ws ≡ Ok (word ws 0, word ws 1, slice_get ws 2)
two_and_maybe u [] h k = absurd (omega arith)
two_and_maybe u (a ∷ []) h k = absurd (omega arith)
two_and_maybe u (a ∷ b ∷ []) h k = refl
two_and_maybe u (a ∷ b ∷ c ∷ []) h k = refl
two_and_maybe u (a ∷ b ∷ c ∷ d ∷ ws) h k = absurd (omega arith)

pub too_few_for_two : (u : Text) (ws : List Text) → length ws < 2 → two_or_three u ws ≡ usage u
too_few_for_two u [] h = refl
too_few_for_two u (a ∷ []) h = refl
too_few_for_two u (a ∷ b ∷ ws) h = absurd (omega arith)

pub too_many_for_three : (u : Text) (ws : List Text) → 3 < length ws → two_or_three u ws ≡ usage u
too_many_for_three u [] h = absurd (omega arith)
too_many_for_three u (a ∷ []) h = absurd (omega arith)
too_many_for_three u (a ∷ b ∷ []) h = absurd (omega arith)
too_many_for_three u (a ∷ b ∷ c ∷ []) h = absurd (omega arith)
too_many_for_three u (a ∷ b ∷ c ∷ d ∷ ws) h = refl

pub three_and_maybe : (u : Text) (ws : List Text) → 3 ≤ length ws → length ws ≤ 4 → three_or_four u ws ≡ Ok (word ws 0, word ws 1, word ws 2, slice_get ws 3)
three_and_maybe u [] h k = absurd (omega arith)
three_and_maybe u (a ∷ []) h k = absurd (omega arith)
three_and_maybe u (a ∷ b ∷ []) h k = absurd (omega arith)
three_and_maybe u (a ∷ b ∷ c ∷ []) h k = refl
three_and_maybe u (a ∷ b ∷ c ∷ d ∷ []) h k = refl
three_and_maybe u (a ∷ b ∷ c ∷ d ∷ e ∷ ws) h k = absurd (omega arith)

pub too_few_for_three : (u : Text) (ws : List Text) → length ws < 3 → three_or_four u ws ≡ usage u
too_few_for_three u [] h = refl
too_few_for_three u (a ∷ []) h = refl
too_few_for_three u (a ∷ b ∷ []) h = refl
too_few_for_three u (a ∷ b ∷ c ∷ ws) h = absurd (omega arith)

pub too_many_for_four : (u : Text) (ws : List Text) → 4 < length ws → three_or_four u ws ≡ usage u
too_many_for_four u [] h = absurd (omega arith)
too_many_for_four u (a ∷ []) h = absurd (omega arith)
too_many_for_four u (a ∷ b ∷ []) h = absurd (omega arith)
too_many_for_four u (a ∷ b ∷ c ∷ []) h = absurd (omega arith)
too_many_for_four u (a ∷ b ∷ c ∷ d ∷ []) h = absurd (omega arith)
too_many_for_four u (a ∷ b ∷ c ∷ d ∷ e ∷ ws) h = refl

-- ---- one or none

pub none_given : (u : Text) (ws : List Text) → length ws ≡ 0 → up_to_one u ws ≡ Ok None
none_given u [] h = refl
none_given u (a ∷ ws) h = absurd (omega arith)

pub one_given : (u : Text) (ws : List Text) → length ws ≢ 0 → length ws ≤ 1 → up_to_one u ws ≡ Ok (Some (word ws 0))
one_given u [] h k = absurd (h refl)
one_given u (a ∷ []) h k = refl
one_given u (a ∷ b ∷ ws) h k = absurd (omega arith)

pub more_given : (u : Text) (ws : List Text) → 1 < length ws → up_to_one u ws ≡ usage u
more_given u [] h = absurd (omega arith)
more_given u (a ∷ []) h = absurd (omega arith)
more_given u (a ∷ b ∷ ws) h = refl
