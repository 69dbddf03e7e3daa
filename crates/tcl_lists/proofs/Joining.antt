-- Words joined: what is left of each, and one behind the others.
use Rattle.std.proofs.Common.{◌≡◌, ℕ, zero, suc, ◌+◌, ◌<◌, ◌==◌, Bool, true, false, ◌&&◌, List, [], ◌∷◌, ◌++◌, take, length, append_assoc, arith, refl, sym, ap, ◌∙◌}
use Rattle.std.specs.Prelude.{cond}
use Rattle.std.proofs.lemmas.Bool.{and_parts, false≢true}
use Rattle.tcl_chars.specs.Characters.{backslash}
use Rattle.tcl_chars.specs.Classes.{is_list_space}
use Rattle.std.proofs.lemmas.List.{take_more, append-nil, reverse-append}
use Rattle.std.proofs.Math.Seq.{take-append-add}
use Rattle.tcl_chars.proofs.Trims.{trims, keeps}
use Rattle.tcl_chars.specs.Place.{begins}
use Rattle.tcl_chars.specs.Whole.{skip_space, trim_end}
use Rattle.tcl_lists.specs.WordAt.{word}
use Rattle.tcl_lists.specs.Joined.{is_empty, with_word}
use Rattle.tcl_pages.specs.Lists.{space_kept, trimmed_end, trimmed, unless_empty, all_trimmed, concat, times}
use Rattle.tcl_pages.specs.Texts.{Text, spaced, spaced_more}

abbrev all_space : Text → Bool
all_space [] = true
all_space (c ∷ cs) = is_list_space c && all_space cs

-- A text is `end` and list space behind it, and `longer` has the first character of that.
pub record IsTrimmed (all end longer : Text) : Type 0 where
  space : Text
  blank : all_space space ≡ true
  joined : all ≡ end ++ space
  one_more : longer ≡ end ++ take 1 space

pub trim_begins : (t : Text) → IsTrimmed t t t
trim_begins t = record { space = []; blank = refl; joined = sym (append-nil t); one_more = sym (append-nil t) }

pub trim_goes_on : (all end longer front : Text) (c : ℕ) → end ≡ front ++ c ∷ [] → is_list_space c ≡ true → IsTrimmed all end longer → IsTrimmed all front end
trim_goes_on all end longer front c e b t = record {
  space = c ∷ t.space;
  blank = ap (λ (x : Bool). x && all_space t.space) b ∙ t.blank;
  joined = t.joined ∙ ap (λ u. u ++ t.space) e ∙ append_assoc front (c ∷ []) t.space;
  one_more = e;
}

trims_all : (front space : Text) → all_space space ≡ true → trim_end (front ++ space) ≡ trim_end front
trims_all front [] h = ap trim_end (append-nil front)
trims_all front (c ∷ space) h =
    let p = and_parts _ _ h in
    ap trim_end (sym (append_assoc front (c ∷ []) space)) ∙ trims_all (front ++ c ∷ []) space p.1 ∙ trims front c p.0

last_kept : (front : Text) (c : ℕ) → space_kept (front ++ c ∷ []) ≡ cond (c == backslash) 1 0
last_kept front c = ap (λ r. cond (begins backslash r) 1 0) (reverse-append front (c ∷ []))

-- behind a character that is no list space, k characters stay
pub trimmed_at : (front space : Text) (c k : ℕ) → all_space space ≡ true → is_list_space c ≡ false → cond (c == backslash) 1 0 ≡ k → trimmed_end ((front ++ c ∷ []) ++ space) ≡ (front ++ c ∷ []) ++ take k space
unfolding trimmed_end
trimmed_at front space c k h s e =
    ap (λ t. take (length t + space_kept t) ((front ++ c ∷ []) ++ space)) (trims_all (front ++ c ∷ []) space h ∙ keeps front c s)
    ∙ ap (λ n. take (length (front ++ c ∷ []) + n) ((front ++ c ∷ []) ++ space)) (last_kept front c ∙ e) ∙ take-append-add (front ++ c ∷ []) space k

trimmed_from : (all end longer front : Text) (c k : ℕ) → end ≡ front ++ c ∷ [] → is_list_space c ≡ false → cond (c == backslash) 1 0 ≡ k → (t : IsTrimmed all end longer) → end ++ take k t.space ≡ trimmed_end all
trimmed_from all end longer front c k e h b t =
    ap (λ u. u ++ take k t.space) e ∙ sym (ap trimmed_end (t.joined ∙ ap (λ u. u ++ t.space) e) ∙ trimmed_at front t.space c k t.blank h b)

pub trim_escaped : (all end longer front : Text) (c : ℕ) → end ≡ front ++ c ∷ [] → is_list_space c ≡ false → (c == backslash) ≡ true → IsTrimmed all end longer → longer ≡ trimmed_end all
trim_escaped all end longer front c e h k t = t.one_more ∙ trimmed_from all end longer front c 1 e h (ap (λ b. cond b 1 0) k) t

pub trim_plain : (all end longer front : Text) (c : ℕ) → end ≡ front ++ c ∷ [] → is_list_space c ≡ false → (c == backslash) ≡ false → IsTrimmed all end longer → end ≡ trimmed_end all
trim_plain all end longer front c e h k t = sym (append-nil end) ∙ trimmed_from all end longer front c 0 e h (ap (λ b. cond b 1 0) k) t

pub trim_whole : (all end longer : Text) → end ≡ [] → IsTrimmed all end longer → end ≡ trimmed_end all
unfolding trimmed_end
trim_whole all end longer e t = e ∙ sym (ap trimmed_end (t.joined ∙ ap (λ u. u ++ t.space) e) ∙ ap (λ s. take (length s + space_kept s) t.space) (trims_all [] t.space t.blank))

-- ---- one word behind the others

FirstFull : List Text → Type 0
FirstFull [] = Unit {0}
FirstFull ([] ∷ us) = ⊥
FirstFull ((c ∷ cs) ∷ us) = Unit {0}

full_unless : (t : Text) (us : List Text) → FirstFull us → FirstFull (unless_empty t us)
unfolding FirstFull
full_unless [] us h = h
full_unless (c ∷ cs) us h = tt

full_trimmed : (ws : List Text) → FirstFull (all_trimmed ws)
unfolding FirstFull
full_trimmed [] = tt
full_trimmed (w ∷ ws) = full_unless (trimmed w) (all_trimmed ws) (full_trimmed ws)

unless_append : (t : Text) (us vs : List Text) → unless_empty t (us ++ vs) ≡ unless_empty t us ++ vs
unless_append [] us vs = refl
unless_append (c ∷ cs) us vs = refl

trimmed_append : (ws : List Text) (w : Text) → all_trimmed (ws ++ w ∷ []) ≡ all_trimmed ws ++ unless_empty (trimmed w) []
trimmed_append [] w = refl
trimmed_append (x ∷ ws) w = ap (unless_empty (trimmed x)) (trimmed_append ws w) ∙ unless_append (trimmed x) (all_trimmed ws) (unless_empty (trimmed w) [])

spaced_append : (us : List Text) (t : Text) → spaced_more (us ++ t ∷ []) ≡ spaced_more us ++ 32 ∷ t
spaced_append [] t = ap (λ v. 32 ∷ v) (append-nil t)
spaced_append (u ∷ us) t = ap (λ v. 32 ∷ (u ++ v)) (spaced_append us t) ∙ ap (λ v. 32 ∷ v) (sym (append_assoc u (spaced_more us) (32 ∷ t)))

spaced_behind : (us : List Text) (t : Text) → FirstFull us → spaced (us ++ unless_empty t []) ≡ with_word (spaced us) t
unfolding FirstFull
spaced_behind us [] h = ap spaced (append-nil us)
spaced_behind [] (c ∷ cs) h = append-nil (c ∷ cs)
spaced_behind ([] ∷ us) (c ∷ cs) h = absurd h
spaced_behind ((a ∷ u) ∷ us) (c ∷ cs) h = ap (λ v. a ∷ (u ++ v)) (spaced_append us (c ∷ cs)) ∙ ap (λ v. a ∷ v) (sym (append_assoc u (spaced_more us) (32 ∷ c ∷ cs)))

pub concat_more : (ws : List Text) (w : Text) → concat (ws ++ w ∷ []) ≡ with_word (concat ws) (trimmed w)
concat_more ws w = ap spaced (trimmed_append ws w) ∙ spaced_behind (all_trimmed ws) (trimmed w) (full_trimmed ws)

-- ---- a word written

pub left_out : (t w : Text) → is_empty w ≡ true → t ≡ with_word t w
left_out t [] h = refl
left_out t (c ∷ cs) h = absurd (false≢true h)

pub stands_first : (t w : Text) → is_empty w ≡ false → is_empty t ≡ true → t ++ w ≡ with_word t w
stands_first t [] h k = absurd (false≢true (sym h))
stands_first [] (c ∷ cs) h k = refl
stands_first (a ∷ t) (c ∷ cs) h k = absurd (false≢true k)

pub stands_behind : (t w : Text) → is_empty w ≡ false → is_empty t ≡ false → (t ++ 32 ∷ []) ++ w ≡ with_word t w
stands_behind t [] h k = absurd (false≢true (sym h))
stands_behind [] (c ∷ cs) h k = absurd (false≢true (sym k))
stands_behind (a ∷ t) (c ∷ cs) h k = ap (λ u. a ∷ u) (append_assoc t (32 ∷ []) (c ∷ cs))

-- ---- elements many times

pub times_none : (n : ℕ) (es : List Text) → length es ≡ 0 → times n es ≡ []
times_none zero es h = refl
times_none (suc n) [] h = times_none n [] h
times_none (suc n) (e ∷ es) h = absurd (omega arith)

pub times_same : (n : ℕ) (es : List Text) → length es ≡ 0 → es ≡ times n es
times_same n [] h = sym (times_none n [] refl)
times_same n (e ∷ es) h = absurd (omega arith)

pub concat_step : (ws : List Text) (i : ℕ) (t e joined new : Text) → i < length ws → t ≡ word ws i → e ≡ trimmed_end (skip_space t) → joined ≡ concat (take i ws) → new ≡ with_word joined e → new ≡ concat (take (i + 1) ws)
concat_step ws i t e joined new h et ee ej en =
    en ∙ ap (λ u. with_word u e) ej ∙ ap (with_word (concat (take i ws))) (ee ∙ ap trimmed et) ∙ sym (concat_more (take i ws) (word ws i)) ∙ ap concat (sym (take_more ws i [] h))
