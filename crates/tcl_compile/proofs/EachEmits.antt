-- The instructions of an inlined `foreach` or `lmap`, emitted one after another.
use Rattle.std.proofs.Common.{◌≡◌, ℕ, ◌+◌, ◌-◌, ◌<◌, ◌≤◌, Bool, false, List, [], ◌∷◌, ◌++◌, length, map, get_or, take, drop, refl, sym, ap, ◌∙◌, subst, arith, append_assoc, append-nil, length-append}
use Rattle.tcl_chars.specs.declared.numbers.Dialect.{Dialect}
use Rattle.tcl_list.specs.Texts as texts
use Rattle.tcl_words.specs.Parts.{Shape}
use Rattle.tcl_pages.specs.Texts.{Text}
use Rattle.tcl_meaning.proofs.ScriptRules.{drop_here}
use Rattle.tcl_code.specs.Guards.{name_of}
use Rattle.tcl_code.specs.Instructions.{Deal, TakeFirst, SkipEmpty, DropList, Write, Answer, Call, Guard, Skip, Turn}
use Rattle.tcl_compile.specs.Eaches.{AreEachWords, AreListWords, IsEach, IsNameList, EachCode, Tells, TextsLeft, each_begin, each_command, each_end, takes}
use Rattle.tcl_compile.specs.Forms.{bodied, BodiedCode}
use Rattle.tcl_compile.specs.Emitted.{WordCode, CommandCode}
use Rattle.tcl_compile.specs.Fragments.{Grown, Leads}
use Rattle.tcl_compile.specs.Literals.{IsLiteral, spelled, text_of}
use Rattle.tcl_compile.specs.Within.{ArgumentsAreShort, WordsAreShort}
use Rattle.tcl_compile.specs.declared.each.EachForm.{EachForm}
use Rattle.tcl_compile.proofs.Clauses.{rest_is}
use Rattle.tcl_compile.proofs.Eaching.{dealt_code, each_code}
use Rattle.tcl_compile.proofs.EachRuns.{each_uses, tells_all, tells_end, tells_next}
use Rattle.tcl_compile.proofs.Emits.{Code, ext, join, drop_end, leads_end, leads_on}
use Rattle.tcl_compile.proofs.Forks.{Behind, behind, more_behind, LedHere, forked}
use Rattle.tcl_compile.proofs.Guarded.{fork}
use Rattle.tcl_compile.proofs.LiteralWords.{of_some}

-- ---- words

list_short : (n : ℕ) (names : List Text) (body : Text) (ws : List Shape) → AreListWords names body ws → WordsAreShort n ws → length body ≤ n
list_short n names body [] h k = absurd h
list_short n names body (w ∷ []) h k = of_some (λ (u : Text). length u ≤ n) (spelled w.pieces) body h.1.1 k.0
list_short n names body (w0 ∷ w1 ∷ ws) h k = list_short n h.1 body ws h.4 k.1.1

pub each_short : (n : ℕ) (gathers : Bool) (names : List Text) (body : Text) (ws : List Shape) → AreEachWords gathers names body ws → ArgumentsAreShort n ws → length body ≤ n
each_short n gathers names body [] h k = absurd h
each_short n gathers names body (w ∷ ws) h k = list_short n names body ws h.2 k

-- names and words of which these are left
abbrev pub ListsLeft : List Shape → List Text → List Shape → Type 0
ListsLeft all names ws = (more : List Text) (body : Text) → AreListWords more body ws → AreListWords (names ++ more) body all

pub lists_start : (all : List Shape) → ListsLeft all [] all
lists_start all = λ more body h. h

lists_next : (all : List Shape) (names ns : List Text) (w0 w1 : Shape) (ws : List Shape) → ListsLeft all names (w0 ∷ w1 ∷ ws) → IsNameList w0 ns → ListsLeft all (names ++ ns) ws
lists_next all names ns w0 w1 ws h is = λ more body k. subst (λ l. AreListWords l body all) (sym (append_assoc names ns more)) (h (ns ++ more) body (ns, more, refl, is, k))

pub lists_more : {A : Type 0} (f : A → Shape) (all : List Shape) (names ns both : List Text) (xs : List A) (x : A) → 1 < length xs → x ≡ get_or xs 0 x → both ≡ names ++ ns → ListsLeft all names (map f xs) → IsNameList (f x) ns → ListsLeft all both (map f (take (length xs - 2) (drop 2 xs)))
lists_more f all names ns both [] x lt e sum h is = absurd (omega (arith, lt))
lists_more f all names ns both (y ∷ []) x lt e sum h is = absurd (omega (arith, lt))
lists_more f all names ns both (y ∷ z ∷ xs) x lt e sum h is =
    let next : ListsLeft all (names ++ ns) (map f xs) = lists_next all names ns (f y) (f z) (map f xs) h (subst (λ w. IsNameList (f w) ns) e is) in
    subst (λ l. ListsLeft all l (map f (take (length (y ∷ z ∷ xs) - 2) xs))) (sym sum) (subst (λ l. ListsLeft all (names ++ ns) (map f l)) (sym (rest_is 2 (y ∷ z ∷ xs))) next)

pub lists_done : {A : Type 0} (f : A → Shape) (all : List Shape) (names : List Text) (body : Text) (xs : List A) (x : A) → 0 < length xs → length xs ≤ 1 → x ≡ get_or xs 0 x → ListsLeft all names (map f xs) → IsLiteral (f x) body → AreListWords names body all
lists_done f all names body [] x some le e h is = absurd (omega (arith, some))
lists_done f all names body (y ∷ []) x some le e h is = subst (λ l. AreListWords l body all) (append-nil names) (h [] body (refl, subst (λ w. IsLiteral (f w) body) e is))
lists_done f all names body (y ∷ z ∷ xs) x some le e h is = absurd (omega (arith, le))

-- the words are the name and these
pub each_named : {A : Type 0} (f : A → Shape) (gathers : Bool) (names : List Text) (body : Text) (xs : List A) (x : A) → 0 < length xs → x ≡ get_or xs 0 x → IsLiteral (f x) (name_of (each_command gathers)) → 0 < length names → AreListWords names body (map f (take (length xs - 1) (drop 1 xs))) → AreEachWords gathers names body (map f xs)
each_named f gathers names body [] x some e is named h = absurd (omega (arith, some))
each_named f gathers names body (y ∷ xs) x some e is named h = (subst (λ w. IsLiteral (f w) (name_of (each_command gathers))) e is, named, subst (λ l. AreListWords names body (map f l)) (rest_is 1 (y ∷ xs)) h)

-- ---- names

-- the names from one on are still to come
abbrev pub TakesLeft : ℕ → List Text → Code → Code → Type 0
TakesLeft i names old new = new ++ takes (drop i names) ≡ old ++ takes names

pub takes_next : (names : List Text) (i : ℕ) (name : Text) (m0 m1 m2 m3 : Code) → i < length names → name ≡ get_or names i name → TakesLeft i names m0 m1 → m2 ≡ m1 ++ TakeFirst ∷ [] → m3 ≡ m2 ++ Write name ∷ [] → TakesLeft (i + 1) names m0 m3
takes_next names i name m0 m1 m2 m3 lt e h e2 e3 =
    let rest = takes (drop (i + 1) names) in
    let both : m3 ≡ m1 ++ TakeFirst ∷ Write name ∷ [] = (join (ext {m0 = m1} {c = TakeFirst ∷ []} e2) (ext {m0 = m2} {c = Write name ∷ []} e3)).is in
    ap (λ l. l ++ rest) both ∙ append_assoc m1 (TakeFirst ∷ Write name ∷ []) rest ∙ ap (λ l. m1 ++ takes l) (sym (drop_here names i name lt e)) ∙ h

pub takes_end : (names : List Text) (i : ℕ) (m0 m1 : Code) → length names ≤ i → TakesLeft i names m0 m1 → m1 ≡ m0 ++ takes names
takes_end names i m0 m1 le h = sym (append-nil m1) ∙ ap (λ l. m1 ++ takes l) (sym (drop_end names i le)) ∙ h

module _ (dialect : Dialect) where
  -- ---- the turns

  pub grown_each_turns : (m0 m1 m2 m3 m4 m5 m6 m7 m8 m9 m10 m11 : Code) (gathers : Bool) (count n : ℕ) (names : List Text) (body : Text) → m1 ≡ m0 ++ each_begin gathers → m2 ≡ m1 ++ Deal count ∷ [] → m3 ≡ m2 ++ Skip 0 ∷ [] → m4 ≡ m3 ++ takes names → Grown (BodiedCode dialect false gathers body) m4 m5
      → m6 ≡ m5 ++ Skip 2 ∷ [] → LedHere (length m2) m6 m7 → m8 ≡ m7 ++ SkipEmpty 1 ∷ [] → m9 ≡ m8 ++ Turn n ∷ [] → n ≡ length m8 - length m3 → m10 ≡ m9 ++ DropList ∷ [] → m11 ≡ m10 ++ each_end gathers ∷ Answer ∷ [] → Grown (EachCode dialect gathers count names body) m0 m11
  grown_each_turns m0 m1 m2 m3 m4 m5 m6 m7 m8 m9 m10 m11 gathers count n names body e1 e2 e3 e4 x e6 l7 e8 e9 en e10 e11 =
      let b = x.2.0 in
      let ts = takes names in
      let c = bodied false gathers b in
      let m5_is : m5 ≡ m4 ++ c = x.1 ∙ ap (λ z. m4 ++ z) x.2.1 in
      let front = (ts ++ c) ++ Skip 2 ∷ [] in
      let inner : Behind (Skip 0) m2 front m6 = more_behind (Skip 2 ∷ []) (more_behind c (behind ts {i = Skip 0} {m0 = m2} e3 e4) m5_is) e6 in
      let long : length front ≡ length ts + length c + 1 = omega (arith, length-append (ts ++ c) (Skip 2 ∷ []), length-append ts c) in
      let m7_is : m7 ≡ m2 ++ Skip (length ts + length c + 1) ∷ front = l7 m2 front (Skip 0) inner.is refl ∙ ap (λ k. m2 ++ Skip k ∷ front) long in
      let end = each_end gathers ∷ Answer ∷ [] in
      let tail : ℕ → Code = λ k. SkipEmpty 1 ∷ Turn k ∷ DropList ∷ each_end gathers ∷ Answer ∷ [] in
      let ends : m11 ≡ m7 ++ tail n = (join (ext {m0 = m7} {c = SkipEmpty 1 ∷ []} e8) (join (ext {m0 = m8} {c = Turn n ∷ []} e9) (join (ext {m0 = m9} {c = DropList ∷ []} e10) (ext {m0 = m10} {c = end} e11)))).is in
      let size3 : length m3 ≡ length m2 + 1 = omega (arith, ap length e3, length-append m2 (Skip 0 ∷ [])) in
      let size7 : length m7 ≡ length m2 + (length ts + length c + 2) = omega (arith, long, ap length m7_is, length-append m2 (Skip (length ts + length c + 1) ∷ front)) in
      let turn : n ≡ length ts + length c + 2 = omega (arith, en, size3, size7, ap length e8, length-append m7 (SkipEmpty 1 ∷ [])) in
      let turns : ℕ → Code = λ k. Skip (length ts + length c + 1) ∷ (ts ++ (c ++ Skip 2 ∷ tail k)) in
      let code : m11 ≡ m0 ++ each_code gathers count ts c =
      ends ∙ ap (λ z. z ++ tail n) m7_is
      ∙ append_assoc m2 (Skip (length ts + length c + 1) ∷ front) (tail n)
      ∙ ap (λ z. m2 ++ Skip (length ts + length c + 1) ∷ z) (append_assoc (ts ++ c) (Skip 2 ∷ []) (tail n) ∙ append_assoc ts c (Skip 2 ∷ tail n))
      ∙ ap (λ k. m2 ++ turns k) turn
      ∙ ap (λ z. z ++ turns (length ts + length c + 2)) e2
      ∙ append_assoc m1 (Deal count ∷ []) (turns (length ts + length c + 2))
      ∙ ap (λ z. z ++ dealt_code gathers count ts c) e1
      ∙ append_assoc m0 (each_begin gathers) (dealt_code gathers count ts c) in
      (each_code gathers count ts c, code, each_uses dialect gathers count names body b x.2.2)

  -- ---- the command

  pub told_leads : (ws : List Shape) (i : ℕ) (w : Shape) (old mid new : Code) → w.expands ≡ false → i < length ws → w ≡ get_or ws i w → Leads (TextsLeft dialect ws (drop i ws)) (TextsLeft dialect ws ws) old mid → Grown (WordCode dialect w.pieces) mid new → Leads (TextsLeft dialect ws (drop (i + 1) ws)) (TextsLeft dialect ws ws) old new
  told_leads ws i w old mid new plain lt e l g =
      leads_on (TextsLeft dialect ws (drop i ws)) (TextsLeft dialect ws (drop (i + 1) ws)) (WordCode dialect w.pieces) (TextsLeft dialect ws ws) old mid new
      (λ c more h k. subst (λ qs. TextsLeft dialect ws qs (c ++ more)) (sym (drop_here ws i w lt e)) (tells_next dialect (length ws) ws w (drop (i + 1) ws) c more plain h k)) l g

  pub grown_each : (f : EachForm) (ws : List Shape) (i n : ℕ) (m0 m1 m2 m3 m4 m5 m6 m7 : Code) → IsEach f ws → length ws ≤ i → n ≡ length ws → Leads (TextsLeft dialect ws (drop i ws)) (TextsLeft dialect ws ws) m0 m1 → m2 ≡ m1 ++ Guard (each_command f.gathers) 0 ∷ []
      → Grown (EachCode dialect f.gathers n (map texts.text_of f.names.items) (text_of f.body)) m2 m3 → m4 ≡ m3 ++ Skip 0 ∷ [] → LedHere (length m1) m4 m5 → m6 ≡ m5 ++ Call n ∷ [] → LedHere (length m3) m6 m7 → Grown (CommandCode dialect ws) m0 m7
  grown_each f ws i n m0 m1 m2 m3 m4 m5 m6 m7 is le e l e2 x e4 l5 e6 l7 =
      let whole = fork (Guard (each_command f.gathers) (length x.0 + 1)) x.0 (Call n ∷ []) in
      let past : m7 ≡ m1 ++ whole = forked (Guard (each_command f.gathers) 0) x.0 (Call n ∷ []) m1 m2 m3 m4 m5 m6 m7 e2 x.1 e4 l5 e6 l7 in
      let told : Tells dialect n ws whole [] = tells_end dialect f.gathers (map texts.text_of f.names.items) (text_of f.body) ws n x.0 is x.2 in
      let last : TextsLeft dialect ws (drop i ws) whole = subst (λ qs. TextsLeft dialect ws qs whole) (sym (drop_end ws i le)) (subst (λ m. Tells dialect m ws whole []) e told) in
      let g = leads_end (TextsLeft dialect ws (drop i ws)) (TextsLeft dialect ws ws) m0 m1 m7 l (whole, past, last) in
      (g.0, g.1, tells_all dialect ws g.0 g.2)
