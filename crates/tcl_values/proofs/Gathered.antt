-- Elements that are gathered to be a list.
use Rattle.std.proofs.Common.{◌≡◌, ℕ, zero, suc, ◌+◌, ◌≤◌, ◌<◌, List, [], ◌∷◌, ◌++◌, length, get_or, max, take, drop, reverse, append_assoc, ap, sym, ◌∙◌, ◌-◌, refl, arith}
use Rattle.std.proofs.lemmas.List.{append-nil, map-append, reverse-append, take_more}
use Rattle.tcl_pages.specs.Lists.{replaced, times}
use Rattle.tcl_values.proofs.Depths.{depth_least, depth_over-append, depth_over-push, depth_take, depth_drop}
use Rattle.tcl_values.specs.Kept.{Kept, texts, depth_over}

over_reverse : (ks : List Kept) → depth_over (reverse ks) ≡ depth_over ks
over_reverse [] = refl
over_reverse (k ∷ ks) =
    let e : reverse (k ∷ ks) ≡ reverse ks ++ k ∷ [] = reverse-append (k ∷ []) ks in
    omega (arith, ap depth_over e, depth_over-push (reverse ks) k, over_reverse ks)

texts_front : (n : ℕ) (ks : List Kept) → texts (take n ks) ≡ take n (texts ks)
texts_front zero ks = refl
texts_front (suc n) [] = refl
texts_front (suc n) (k ∷ ks) = ap (λ ts. k.text ∷ ts) (texts_front n ks)

texts_rest : (n : ℕ) (ks : List Kept) → texts (drop n ks) ≡ drop n (texts ks)
texts_rest zero ks = refl
texts_rest (suc n) [] = refl
texts_rest (suc n) (k ∷ ks) = texts_rest n ks

-- ---- no list among them

pub at_most_one : (ks : List Kept) (m : ℕ) → depth_over ks ≤ m → m ≤ 1 → m ≡ depth_over ks
at_most_one ks m d l = omega (arith, depth_least ks, d, l)

-- ---- some elements of a list behind them

pub part_deeper : (old part now row : List Kept) (first last d r m : ℕ) → now ≡ old ++ part → part ≡ drop first (take last row) → depth_over old ≤ d → r ≡ depth_over row → m ≡ max d r → depth_over now ≤ m
part_deeper old part now row first last d r m e p deep exact most =
    omega (arith, ap depth_over e, depth_over-append old part, ap depth_over p, depth_drop first (take last row), depth_take last row, deep, exact, most)

pub part_texts : (old part now row : List Kept) (first last : ℕ) (s t : List (List ℕ)) → now ≡ old ++ part → part ≡ drop first (take last row) → texts old ≡ s → texts row ≡ t → texts now ≡ s ++ drop first (take last t)
part_texts old part now row first last s t e p is_old is_row =
    ap texts e ∙ map-append (λ (k : Kept). k.text) old part
    ∙ ap (λ ts. texts old ++ ts) (ap texts p ∙ texts_rest first (take last row) ∙ ap (drop first) (texts_front last row) ∙ ap (λ ts. drop first (take last ts)) is_row)
    ∙ ap (λ ts. ts ++ drop first (take last t)) is_old

-- ---- one element behind them

pub came_deeper : (ks more : List Kept) (k : Kept) (d n : ℕ) → depth_over ks ≤ d → more ≡ ks ++ k ∷ [] → d ≤ n → k.depth + 1 ≤ n → depth_over more ≤ n
came_deeper ks more k d n deep m others most = omega (arith, ap depth_over m, depth_over-push ks k, deep, others, most)

pub came_texts : (old now new : List Kept) (k : Kept) (ts : List (List ℕ)) (i : ℕ) (t : List ℕ) → i < length ts → t ≡ get_or ts i t → new ≡ now ++ k ∷ [] → k.text ≡ t → texts now ≡ texts old ++ take i ts → texts new ≡ texts old ++ take (i + 1) ts
came_texts old now new k ts i t l is e said same =
    ap texts e ∙ map-append (λ (q : Kept). q.text) now (k ∷ []) ∙ ap (λ us. us ++ k.text ∷ []) same ∙ append_assoc (texts old) (take i ts) (k.text ∷ [])
    ∙ ap (λ us. texts old ++ us) (ap (λ x. take i ts ++ x ∷ []) (said ∙ is) ∙ sym (take_more ts i t l))

-- ---- others in the place of some

pub replaced_deeper : (ks ls now : List Kept) (i c d n m : ℕ) → now ≡ take i ks ++ ls ++ drop (i + c) ks → depth_over ks ≤ d → depth_over ls ≤ n → m ≡ max d n → depth_over now ≤ m
replaced_deeper ks ls now i c d n m e deep new most =
    omega (arith, ap depth_over e, depth_over-append (take i ks ++ ls) (drop (i + c) ks), depth_over-append (take i ks) ls, depth_take i ks, depth_drop (i + c) ks, deep, new, most)

pub replaced_texts : (ks ls now : List Kept) (i j c : ℕ) (s t : List (List ℕ)) → now ≡ take i ks ++ ls ++ drop (i + c) ks → c ≡ j - i → texts ks ≡ s → texts ls ≡ t → texts now ≡ replaced s i j t
replaced_texts ks ls now i j c s t e gone is_old is_new =
    let m : i + c ≡ max i j = omega (arith, gone) in
    ap texts e ∙ map-append (λ (q : Kept). q.text) (take i ks ++ ls) (drop (i + c) ks)
    ∙ ap (λ xs. xs ++ texts (drop (i + c) ks)) (map-append (λ (q : Kept). q.text) (take i ks) ls ∙ ap (λ xs. xs ++ texts ls) (texts_front i ks ∙ ap (take i) is_old) ∙ ap (λ xs. take i s ++ xs) is_new)
    ∙ append_assoc (take i s) t (texts (drop (i + c) ks))
    ∙ ap (λ xs. take i s ++ (t ++ xs)) (texts_rest (i + c) ks ∙ ap (drop (i + c)) is_old ∙ ap (λ (n : ℕ). drop n s) m)

-- ---- some elements alone

part_is : (ks front none now : List Kept) (i j : ℕ) → front ≡ take j ks → none ≡ [] → now ≡ take 0 front ++ none ++ drop (0 + i) front → now ≡ drop i (take j ks)
part_is ks front none now i j f n e =
    let z : 0 + i ≡ i = omega arith in
    e ∙ ap (λ (xs : List Kept). take 0 front ++ xs ++ drop (0 + i) front) n ∙ ap (λ (m : ℕ). drop m front) z ∙ ap (drop i) f

pub part_fits : (ks front none now : List Kept) (i j d : ℕ) → front ≡ take j ks → none ≡ [] → now ≡ take 0 front ++ none ++ drop (0 + i) front → depth_over ks ≤ d → depth_over now ≤ d
part_fits ks front none now i j d f n e deep = omega (arith, ap depth_over (part_is ks front none now i j f n e), depth_drop i (take j ks), depth_take j ks, deep)

pub part_of_texts : (ks front none now : List Kept) (i j : ℕ) (s : List (List ℕ)) → front ≡ take j ks → none ≡ [] → now ≡ take 0 front ++ none ++ drop (0 + i) front → texts ks ≡ s → texts now ≡ drop i (take j s)
part_of_texts ks front none now i j s f n e is =
    ap texts (part_is ks front none now i j f n e) ∙ texts_rest i (take j ks) ∙ ap (drop i) (texts_front j ks ∙ ap (take j) is)

-- ---- turned round

pub turned_deeper : (ks now : List Kept) (d : ℕ) → now ≡ reverse ks → depth_over ks ≤ d → depth_over now ≤ d
turned_deeper ks now d e deep = omega (arith, ap depth_over e, over_reverse ks, deep)

texts_reverse : (ks : List Kept) → texts (reverse ks) ≡ reverse (texts ks)
texts_reverse [] = refl
texts_reverse (k ∷ ks) =
    ap texts (reverse-append (k ∷ []) ks) ∙ map-append (λ (q : Kept). q.text) (reverse ks) (k ∷ []) ∙ ap (λ ts. ts ++ k.text ∷ []) (texts_reverse ks) ∙ sym (reverse-append (k.text ∷ []) (texts ks))

pub turned_texts : (ks now : List Kept) (s : List (List ℕ)) → now ≡ reverse ks → texts ks ≡ s → texts now ≡ reverse s
turned_texts ks now s e is = ap texts e ∙ texts_reverse ks ∙ ap reverse is

-- ---- many times

times_back : (n : ℕ) (es : List (List ℕ)) → times n es ++ es ≡ times (suc n) es
times_back zero es = sym (append-nil es)
times_back (suc n) es = append_assoc es (times n es) es ∙ ap (λ us. es ++ us) (times_back n es)

times_more : (n : ℕ) (es : List (List ℕ)) → times n es ++ es ≡ times (n + 1) es
times_more n es =
    let e : suc n ≡ n + 1 = omega arith in
    times_back n es ∙ ap (λ (m : ℕ). times m es) e

pub once_more : (old now new more : List Kept) (n : ℕ) → new ≡ now ++ more → texts now ≡ texts old ++ times n (texts more) → texts new ≡ texts old ++ times (n + 1) (texts more)
once_more old now new more n e same =
    ap texts e ∙ map-append (λ (k : Kept). k.text) now more ∙ ap (λ ts. ts ++ texts more) same ∙ append_assoc (texts old) (times n (texts more)) (texts more)
    ∙ ap (λ ts. texts old ++ ts) (times_more n (texts more))

pub no_deeper : (old now new more : List Kept) → new ≡ now ++ more → depth_over now ≤ max (depth_over old) (depth_over more) → depth_over new ≤ max (depth_over old) (depth_over more)
no_deeper old now new more e deep = omega (arith, ap depth_over e, depth_over-append now more, deep)

pub many_deeper : (ks now start part : List Kept) (d : ℕ) → start ≡ [] → part ≡ ks → depth_over now ≤ max (depth_over start) (depth_over part) → depth_over ks ≤ d → depth_over now ≤ d
many_deeper ks now start part d none same most deep =
    let one : depth_over start ≡ 1 = ap depth_over none in
    omega (arith, one, ap depth_over same, depth_least ks, most, deep)
