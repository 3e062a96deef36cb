-- Trails are joined, lengthened and shortened.
use Rattle.std.proofs.Common.{◌≡◌, ◌≤◌, ◌<◌, ℕ, zero, suc, ◌+◌, ◌-◌, max, nat_lt, if◌then◌else◌, inl, inr, ◌⊎◌, List, [], ◌∷◌, ◌++◌, length, refl, sym, ◌∙◌, ap, subst, arith, length-append, append_assoc}
use Rattle.std.proofs.lemmas.Bool.{cases_lt}
use Rattle.std.proofs.lemmas.Bool.Decides.{nat_tests}
use Rattle.def_crash.specs.Image.{Image}
use Rattle.def_crash.specs.Moments.{DiskView, Images, Since, Passes, OnlyReads}
use Rattle.def_crash.specs.Trail.{At, Trail}

pub at_left : {T : Type 0} (xs ys : List T) (i : ℕ) (P : T → Type 0) → At xs i P → At (xs ++ ys) i P
at_left [] ys i P h = absurd h
at_left (x ∷ xs) ys zero P h = h
at_left (x ∷ xs) ys (suc i) P h = at_left xs ys i P h

pub at_right : {T : Type 0} (xs ys : List T) (i : ℕ) (P : T → Type 0) → At ys i P → At (xs ++ ys) (length xs + i) P
at_right [] ys i P h = let e : i ≡ 0 + i = omega arith in subst (λ (k : ℕ). At ys k P) e h
at_right (x ∷ xs) ys i P h = let e : suc (length xs + i) ≡ suc (length xs) + i = omega arith in subst (λ (k : ℕ). At (x ∷ (xs ++ ys)) k P) e (at_right xs ys i P h)

-- an element of two lists joined is one of the first or of the second
pub at_either : {T : Type 0} (xs ys : List T) (i : ℕ) (P : T → Type 0) → At (xs ++ ys) i P → At xs i P ⊎ ((j : ℕ) × (i ≡ length xs + j) × At ys j P)
at_either [] ys i P h = inr (i, omega arith, h)
at_either (x ∷ xs) ys zero P h = inl h
at_either (x ∷ xs) ys (suc i) P h = elim (at_either xs ys i P h) [
  | inl left ↦ inl left
  | inr right ↦ inr (right.0, omega (arith, right.1), right.2)
]

pub at_mono : {T : Type 0} (xs : List T) (i : ℕ) (P Q : T → Type 0) → ((x : T) → P x → Q x) → At xs i P → At xs i Q
at_mono [] i P Q f h = h
at_mono (x ∷ xs) zero P Q f h = f x h
at_mono (x ∷ xs) (suc i) P Q f h = at_mono xs i P Q f h

pub at_below : {T : Type 0} (xs : List T) (i : ℕ) (P : T → Type 0) → At xs i P → i < length xs
at_below [] i P h = absurd h
at_below (x ∷ xs) zero P h = omega arith
at_below (x ∷ xs) (suc i) P h = omega (arith, at_below xs i P h)

-- marks do not fall
pub marks_rise : (mark : ℕ → ℕ) (n : ℕ) → ((k : ℕ) → k < n → mark k ≤ mark (k + 1)) → (k d : ℕ) → k + d ≤ n → mark k ≤ mark (k + d)
marks_rise mark n rise k zero le = let e : k ≡ k + 0 = omega arith in subst (λ (m : ℕ). mark k ≤ mark m) e (omega arith)
marks_rise mark n rise k (suc d) le =
    let before : mark k ≤ mark (k + d) = marks_rise mark n rise k d (omega arith) in
    let e : k + d + 1 ≡ k + suc d = omega arith in
    let step : mark (k + d) ≤ mark (k + suc d) = subst (λ (m : ℕ). mark (k + d) ≤ mark m) e (rise (k + d) (omega arith)) in
    omega arith

pub marks_in_order : (mark : ℕ → ℕ) (n : ℕ) → ((k : ℕ) → k < n → mark k ≤ mark (k + 1)) → (k m : ℕ) → k ≤ m → m ≤ n → mark k ≤ mark m
marks_in_order mark n rise k m low high =
    let e : k + (m - k) ≡ m = omega arith in
    subst (λ (j : ℕ). mark k ≤ mark j) e (marks_rise mark n rise k (m - k) (omega arith))

-- a call in which each image shows one table
pub trail_of_one : {T : Type 0} (shows : Image → T → Type 0) (v : DiskView) (start : ℕ) (x : T) (rest : List T) → start ≤ v.moment
    → ((c : Image) → Since v start c → shows c x) → Trail shows v start (x ∷ rest) 0
trail_of_one shows v start x rest later each = record {
  mark = λ _. start;
  first = refl;
  rise = λ k le. omega arith;
  last = later;
  place = omega arith;
  each = λ k m c le low high left. (0, omega arith, each c (record { at = m; from = low; till = high; left = left }));
}

-- a call in which each image shows the table before or the one after
pub trail_of_either : {T : Type 0} (shows : Image → T → Type 0) (v : DiskView) (start : ℕ) (x y : T) (rest : List T) → start ≤ v.moment
    → ((c : Image) → Since v start c → shows c x ⊎ shows c y) → Trail shows v start (x ∷ y ∷ rest) 0
trail_of_either shows v start x y rest later each = record {
  mark = λ _. start;
  first = refl;
  rise = λ k le. omega arith;
  last = later;
  place = omega arith;
  each = λ k m c le low high left. elim (each c (record { at = m; from = low; till = high; left = left })) [
    | inl old ↦ (0, omega arith, old)
    | inr new ↦ (1, omega arith, new)
  ];
}

-- a call in which each image shows the table before or the one after, and at whose end each shows the one after
pub trail_of_two : {T : Type 0} (shows : Image → T → Type 0) (v : DiskView) (start : ℕ) (x y : T) (rest : List T) → start ≤ v.moment
    → ((c : Image) → Since v start c → shows c x ⊎ shows c y) → ((c : Image) → Images v c → shows c y) → Trail shows v start (x ∷ y ∷ rest) 1
trail_of_two {T} shows v start x y rest later each at_end = record {
  mark = mark;
  first = refl;
  rise = λ k le. let zero_is : k ≡ 0 = omega arith in subst (λ (j : ℕ). mark j ≤ mark (j + 1)) (sym zero_is) later;
  last = omega arith;
  place = omega arith;
  each = λ k m c le low high left. elim (cases_lt m v.moment) [
    | inl early ↦ before k m c le low high left early
    | inr late ↦
        let now : m ≡ v.moment = omega arith in
        (1, omega arith, at_end c (subst (λ (j : ℕ). v.images_at j c) now left))
  ];
}
  where
    mark : ℕ → ℕ
    mark zero = start
    mark (suc k) = v.moment

    before : (k m : ℕ) (c : Image) → k ≤ 1 → mark k ≤ m → m ≤ v.moment → v.images_at m c → m < v.moment → (i : ℕ) × (k ≤ i) × At (x ∷ y ∷ rest) i (shows c)
    before zero m c le low high left early = elim (each c (record { at = m; from = low; till = high; left = left })) [
      | inl old ↦ (0, omega arith, old)
      | inr new ↦ (1, omega arith, new)
    ]
    before (suc k) m c le low high left early = absurd (omega arith)

-- more tables after the last
pub trail_more : {T : Type 0} (shows : Image → T → Type 0) (v : DiskView) (start : ℕ) (tables more : List T) (n : ℕ)
    → Trail shows v start tables n → Trail shows v start (tables ++ more) n
trail_more shows v start tables more n t = record {
  mark = t.mark;
  first = t.first;
  rise = t.rise;
  last = t.last;
  place = omega (arith, t.place, length-append tables more);
  each = λ k m c le low high left. let p = t.each k m c le low high left in (p.0, p.1, at_left tables more p.0 (shows c) p.2);
}

-- the marks of two trails joined: those of the first up to its number, then those of the second
abbrev joined_mark : (ℕ → ℕ) → (ℕ → ℕ) → ℕ → ℕ → ℕ
joined_mark first second n k = if nat_lt n k then second (k - n) else first k

-- a trail with as many marks as tables, and one from its end that begins with its last table
module _ {T : Type 0} (shows : Image → T → Type 0) (mid new : DiskView) (start : ℕ) (xs ys : List T) (x : T) (n : ℕ) (passes : Passes mid new)
    (a : Trail shows mid start (xs ++ x ∷ []) (length xs)) (b : Trail shows new mid.moment (x ∷ ys) n) where
  abbrev both : ℕ → ℕ
  both k = joined_mark a.mark b.mark (length xs) k

  early : (k : ℕ) → k ≤ length xs → both k ≡ a.mark k
  early k is = grind (arith, nat_tests)

  late : (k : ℕ) → length xs < k → both k ≡ b.mark (k - length xs)
  late k is = grind (arith, nat_tests)

  in_first : (k : ℕ) → k ≤ length xs → a.mark k ≤ mid.moment
  in_first k le = let order : a.mark k ≤ a.mark (length xs) = marks_in_order a.mark (length xs) a.rise k (length xs) le (omega arith) in omega (arith, a.last)

  in_second : (k : ℕ) → k ≤ n → mid.moment ≤ b.mark k
  in_second k le = let order : b.mark 0 ≤ b.mark k = marks_in_order b.mark n b.rise 0 k (omega arith) le in omega (arith, b.first)

  rises : (k : ℕ) → k < length xs + n → both k ≤ both (k + 1)
  rises k is = elim (cases_lt k (length xs)) [
    | inl under ↦
        let here : both k ≡ a.mark k = early k (omega arith) in
        let next : both (k + 1) ≡ a.mark (k + 1) = early (k + 1) (omega arith) in
        let order : a.mark k ≤ a.mark (k + 1) = a.rise k under in
        omega arith
    | inr from ↦
        let next : both (k + 1) ≡ b.mark (k + 1 - length xs) = late (k + 1) (omega arith) in
        elim (cases_lt (length xs) k) [
          | inl past ↦
              let here : both k ≡ b.mark (k - length xs) = late k past in
              let order : b.mark (k - length xs) ≤ b.mark (k - length xs + 1) = b.rise (k - length xs) (omega arith) in
              let e : k - length xs + 1 ≡ k + 1 - length xs = omega arith in
              let same : b.mark (k - length xs + 1) ≡ b.mark (k + 1 - length xs) = ap b.mark e in
              omega arith
          | inr at ↦
              let here : both k ≡ a.mark k = early k at in
              let one : a.mark k ≤ mid.moment = in_first k at in
              let two : mid.moment ≤ b.mark (k + 1 - length xs) = in_second (k + 1 - length xs) (omega arith) in
              omega arith
        ]
  ]

  -- the last of all marks is the second trail's last
  both_last : both (length xs + n) ≤ new.moment
  both_last = elim (cases_lt (length xs) (length xs + n)) [
    | inl past ↦
        let here : both (length xs + n) ≡ b.mark (length xs + n - length xs) = late (length xs + n) past in
        let e : length xs + n - length xs ≡ n = omega arith in
        let same : b.mark (length xs + n - length xs) ≡ b.mark n = ap b.mark e in
        omega (arith, b.last)
    | inr at ↦
        let here : both (length xs + n) ≡ a.mark (length xs + n) = early (length xs + n) at in
        let one : a.mark (length xs + n) ≤ mid.moment = in_first (length xs + n) at in
        omega (arith, passes.later)
  ]

  in_front : (i : ℕ) (c : Image) → At (xs ++ x ∷ []) i (shows c) → At (xs ++ x ∷ ys) i (shows c)
  in_front i c h = let e : (xs ++ x ∷ []) ++ ys ≡ xs ++ x ∷ ys = append_assoc xs (x ∷ []) ys in subst (λ (l : List T). At l i (shows c)) e (at_left (xs ++ x ∷ []) ys i (shows c) h)

  shown_late : (k j m : ℕ) (c : Image) → k ≤ length xs + j → j ≤ n → b.mark j ≤ m → m ≤ new.moment → new.images_at m c → (i : ℕ) × (k ≤ i) × At (xs ++ x ∷ ys) i (shows c)
  shown_late k j m c le within low high left =
      let p = b.each j m c within low high left in
      (length xs + p.0, omega (arith, p.1), at_right xs (x ∷ ys) p.0 (shows c) p.2)

  shown : (k m : ℕ) (c : Image) → k ≤ length xs + n → both k ≤ m → m ≤ new.moment → new.images_at m c → (i : ℕ) × (k ≤ i) × At (xs ++ x ∷ ys) i (shows c)
  shown k m c le low high left = elim (cases_lt (length xs) k) [
    | inl past ↦
        let here : both k ≡ b.mark (k - length xs) = late k past in
        shown_late k (k - length xs) m c (omega arith) (omega arith) (omega arith) high left
    | inr at ↦
        let here : both k ≡ a.mark k = early k at in
        elim (cases_lt m mid.moment) [
          | inl before ↦
              let p = a.each k m c at (omega arith) (omega arith) (passes.past m c (omega arith) left) in
              (p.0, p.1, in_front p.0 c p.2)
          | inr after ↦ shown_late k 0 m c (omega arith) (omega arith) (omega (arith, b.first)) high left
        ]
  ]

  pub trail_join : Trail shows new start (xs ++ x ∷ ys) (length xs + n)
  trail_join = record {
    mark = both;
    first = early 0 (omega arith) ∙ a.first;
    rise = rises;
    last = both_last;
    place = omega (arith, b.place, length-append xs (x ∷ ys));
    each = shown;
  }

-- the one element of a list
at_only : {T : Type 0} (x : T) (i : ℕ) (P : T → Type 0) → At (x ∷ []) i P → P x
at_only x zero P h = h
at_only x (suc i) P h = absurd h

-- a trail with as many marks as tables outlasts a read
pub trail_read : {T : Type 0} (shows : Image → T → Type 0) (old new : DiskView) (start : ℕ) (xs : List T) (x : T) → OnlyReads old new
    → Trail shows old start (xs ++ x ∷ []) (length xs) → Trail shows new start (xs ++ x ∷ []) (length xs)
trail_read {T} shows old new start xs x reads t =
    let e : length xs + 0 ≡ length xs = omega arith in
    subst (λ (n : ℕ). Trail shows new start (xs ++ x ∷ []) n) e (trail_join shows old new start xs [] x 0 reads.time t
    (trail_of_one shows new old.moment x [] reads.time.later (λ c since. shows_last c (reads.images.each c since))))
  where
    shows_last : (c : Image) → Images old c → shows c x
    shows_last c left =
        let p = t.each (length xs) old.moment c (omega arith) t.last (omega arith) left in
        elim (at_either xs (x ∷ []) p.0 (shows c) p.2) [
          | inl early ↦ absurd (omega (arith, p.1, at_below xs p.0 (shows c) early))
          | inr late ↦ at_only x late.0 (shows c) late.2
        ]

-- tables put in between two parts of a trail's list, of which the first holds no more than its number
module _ {T : Type 0} (shows : Image → T → Type 0) (v : DiskView) (start : ℕ) (xs ys zs : List T) (n : ℕ) (low : length xs ≤ n) (t : Trail shows v start (xs ++ zs) n) where
  -- the old mark for a new one
  abbrev old : ℕ → ℕ
  old k = if nat_lt k (length xs) then k else max (length xs) (k - length ys)

  old_left : (k : ℕ) → k < length xs → old k ≡ k
  old_left k is = grind (arith, nat_tests)

  old_right : (k : ℕ) → length xs ≤ k → old k ≡ max (length xs) (k - length ys)
  old_right k is = grind (arith, nat_tests)

  old_start : old 0 ≡ 0
  old_start = elim (cases_lt 0 (length xs)) [
    | inl under ↦ old_left 0 under
    | inr from ↦ let here : old 0 ≡ max (length xs) (0 - length ys) = old_right 0 from in omega arith
  ]

  old_rises : (k : ℕ) → k < n + length ys → (old k ≤ old (k + 1)) × (old (k + 1) ≤ n)
  old_rises k is = elim (cases_lt (k + 1) (length xs)) [
    | inl under ↦
        let here : old k ≡ k = old_left k (omega arith) in
        let next : old (k + 1) ≡ k + 1 = old_left (k + 1) under in
        (omega arith, omega arith)
    | inr from ↦
        let next : old (k + 1) ≡ max (length xs) (k + 1 - length ys) = old_right (k + 1) from in
        elim (cases_lt k (length xs)) [
          | inl edge ↦ let here : old k ≡ k = old_left k edge in (omega arith, omega arith)
          | inr past ↦ let here : old k ≡ max (length xs) (k - length ys) = old_right k past in (omega arith, omega arith)
        ]
  ]

  old_within : (k : ℕ) → k ≤ n + length ys → old k ≤ n
  old_within k le = elim (cases_lt k (length xs)) [
    | inl under ↦ let here : old k ≡ k = old_left k under in omega arith
    | inr from ↦ let here : old k ≡ max (length xs) (k - length ys) = old_right k from in omega arith
  ]

  moved : (k i : ℕ) (c : Image) → old k ≤ i → At (xs ++ zs) i (shows c) → (j : ℕ) × (k ≤ j) × At (xs ++ (ys ++ zs)) j (shows c)
  moved k i c le h = elim (at_either xs zs i (shows c) h) [
    | inl left ↦
        let inside : i < length xs = at_below xs i (shows c) left in
        elim (cases_lt k (length xs)) [
          | inl under ↦ let here : old k ≡ k = old_left k under in (i, omega arith, at_left xs (ys ++ zs) i (shows c) left)
          | inr from ↦ let here : old k ≡ max (length xs) (k - length ys) = old_right k from in absurd (omega arith)
        ]
    | inr right ↦
        let far : At (xs ++ (ys ++ zs)) (length xs + (length ys + right.0)) (shows c) = at_right xs (ys ++ zs) (length ys + right.0) (shows c) (at_right ys zs right.0 (shows c) right.2) in
        elim (cases_lt k (length xs)) [
          | inl under ↦ (length xs + (length ys + right.0), omega arith, far)
          | inr from ↦ let here : old k ≡ max (length xs) (k - length ys) = old_right k from in (length xs + (length ys + right.0), omega (arith, right.1), far)
        ]
  ]

  pub trail_put_in : Trail shows v start (xs ++ (ys ++ zs)) (n + length ys)
  trail_put_in = record {
    mark = λ k. t.mark (old k);
    first = ap t.mark old_start ∙ t.first;
    rise = λ k is. let o = old_rises k is in marks_in_order t.mark n t.rise (old k) (old (k + 1)) o.0 o.1;
    last = let within : old (n + length ys) ≤ n = old_within (n + length ys) (omega arith) in
        let order : t.mark (old (n + length ys)) ≤ t.mark n = marks_in_order t.mark n t.rise (old (n + length ys)) n within (omega arith) in
        omega (arith, t.last);
    place = omega (arith, t.place, length-append xs (ys ++ zs), length-append ys zs, length-append xs zs);
    each = λ k m c le from high left. let p = t.each (old k) m c (old_within k le) from high left in moved k p.0 c p.1 p.2;
  }
