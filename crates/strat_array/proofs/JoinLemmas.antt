-- Blocks that are added behind those of extents.
use Rattle.std.proofs.Common.{◌≡◌, ◌≢◌, ◌<◌, ◌+◌, ◌-◌, ℕ, zero, suc, get_or, List, [], ◌∷◌, ◌++◌, length, take, Option, Some, None, IfSome, IfNone, refl, sym, ap, ◌∙◌, subst, arith, length-append, append_assoc}
use Rattle.std.specs.List.{range_with_len}
use Rattle.std.proofs.lemmas.List.{take_more, take_all, take_at, append-nil, get_or_append_left, get_or_default}
use Rattle.std.proofs.lemmas.Grind.{flat_map-append}
use Rattle.strat_base.specs.declared.descriptors.Extent.{Extent}
use Rattle.def_bytes.specs.Arrays.{blocks_of}
use Rattle.strat_array.specs.Pushed.{AreMaximal}

range_longer : (a n : ℕ) → range_with_len a (n + 1) ≡ range_with_len a n ++ (a + n) ∷ []
range_longer a zero = let same : a ≡ a + 0 = omega arith in ap (λ (k : ℕ). k ∷ []) same
range_longer a (suc n) =
    let same : a + 1 + n ≡ a + suc n = omega arith in
    let next : suc n + 1 ≡ suc (n + 1) = omega arith in
    ap (range_with_len a) next ∙ ap (λ (x : List ℕ). a ∷ x) (range_longer (a + 1) n ∙ ap (λ (k : ℕ). range_with_len (a + 1) n ++ k ∷ []) same)

-- the same list without its last item
pub same_front : {X : Type 0} (xs ys : List X) (x y : X) → xs ++ x ∷ [] ≡ ys ++ y ∷ [] → ys ≡ xs
same_front xs ys x y same =
    let long : length xs ≡ length ys = omega (arith, ap length same, length-append xs (x ∷ []), length-append ys (y ∷ [])) in
    sym (take_at ys (y ∷ []) (length ys) refl) ∙ ap (take (length ys)) (sym same) ∙ take_at xs (x ∷ []) (length ys) long

-- what is left when the last item was taken
pub popped : {X : Type 0} (all left xs : List X) (x : X) (o : Option X) → IfSome o (λ y. all ≡ left ++ y ∷ []) → IfNone o ((all ≡ []) × (left ≡ [])) → all ≡ xs ++ x ∷ [] → left ≡ xs
popped all left xs x None some none is = absurd (let e : xs ++ x ∷ [] ≡ [] = sym is ∙ none.0 in omega (arith, ap length e, length-append xs (x ∷ [])))
popped all left xs x (Some y) some none is = same_front xs left x y (sym is ∙ some)

module _ (xs : List Extent) (some : 0 < length xs) (z : Extent) (last : z ≡ get_or xs (length xs - 1) z) where
  front : List Extent
  front = take (length xs - 1) xs

  pub ends_with : xs ≡ take (length xs - 1) xs ++ z ∷ []
  ends_with =
      let all' : length xs - 1 + 1 ≡ length xs = omega arith in
      sym (take_all (length xs) xs (omega arith)) ∙ ap (λ (n : ℕ). take n xs) (sym all') ∙ take_more xs (length xs - 1) z (omega arith)
      ∙ ap (λ (e : Extent). take (length xs - 1) xs ++ e ∷ []) (sym last)

  pub blocks_joined : (longer : Extent) (b : ℕ) → longer.start ≡ z.start → longer.len ≡ z.len + 1 → z.start + z.len ≡ b
      → blocks_of (take (length xs - 1) xs ++ longer ∷ []) ≡ blocks_of xs ++ b ∷ []
  blocks_joined longer b start len behind =
      let ys : List Extent = take (length xs - 1) xs in
      let one : range_with_len longer.start longer.len ≡ range_with_len z.start z.len ++ b ∷ [] =
      (λ i. range_with_len (start i) (len i)) ∙ range_longer z.start z.len ∙ ap (λ (k : ℕ). range_with_len z.start z.len ++ k ∷ []) behind in
      blocks_behind ys longer
      ∙ ap (λ (x : List ℕ). blocks_of ys ++ x) one
      ∙ sym (append_assoc (blocks_of ys) (range_with_len z.start z.len) (b ∷ []))
      ∙ ap (λ (x : List ℕ). x ++ b ∷ []) (sym (blocks_behind ys z) ∙ ap blocks_of (sym ends_with))
    where
      blocks_behind : (es : List Extent) (e : Extent) → blocks_of (es ++ e ∷ []) ≡ blocks_of es ++ range_with_len e.start e.len
      blocks_behind es e = flat_map-append (λ x. range_with_len x.start x.len) es (e ∷ []) ∙ ap (λ (x : List ℕ). blocks_of es ++ x) (append-nil (range_with_len e.start e.len))

maximal_longer : (ys : List Extent) (z longer : Extent) → longer.start ≡ z.start → longer.len ≡ z.len + 1 → AreMaximal (ys ++ z ∷ []) → AreMaximal (ys ++ longer ∷ [])
maximal_longer [] z longer start len m = omega arith
maximal_longer (y ∷ []) z longer start len m = (m.0, (λ e. m.1 (e ∙ start)), maximal_longer [] z longer start len m.2)
maximal_longer (y ∷ w ∷ ys) z longer start len m = (m.0, m.1, maximal_longer (w ∷ ys) z longer start len m.2)

pub maximal_joined : (xs : List Extent) (z longer : Extent) → 0 < length xs → z ≡ get_or xs (length xs - 1) z → longer.start ≡ z.start → longer.len ≡ z.len + 1
    → AreMaximal xs → AreMaximal (take (length xs - 1) xs ++ longer ∷ [])
maximal_joined xs z longer some last start len m = maximal_longer (take (length xs - 1) xs) z longer start len (subst AreMaximal (ends_with xs some z last) m)

pub maximal_more : (xs : List Extent) (b : ℕ) → AreMaximal xs → ((d : Extent) → 0 < length xs → (get_or xs (length xs - 1) d).start + (get_or xs (length xs - 1) d).len ≢ b) → AreMaximal (xs ++ record { start = b; len = 1 } ∷ [])
maximal_more [] b m apart = omega arith
maximal_more (z ∷ []) b m apart = (m, apart z (omega arith), omega arith)
maximal_more (y ∷ w ∷ ys) b m apart =
    (m.0, m.1, maximal_more (w ∷ ys) b m.2 (λ d some. subst (λ (k : ℕ). (get_or (y ∷ w ∷ ys) k d).start + (get_or (y ∷ w ∷ ys) k d).len ≢ b) (next ys) (apart d (omega arith))))
  where
    next : (zs : List Extent) → length (y ∷ w ∷ zs) - 1 ≡ suc (length (w ∷ zs) - 1)
    next zs = omega arith

-- the extent before the last is the last of the others
pub before_last : (all xs : List Extent) (x z : Extent) (n : ℕ) → all ≡ xs ++ x ∷ [] → n ≡ length all → 1 < n → z ≡ get_or all (n - 2) z → (0 < length xs) × (z ≡ get_or xs (length xs - 1) z)
before_last all xs x z n is long more here =
    let count : n ≡ length xs + 1 = long ∙ ap length is ∙ length-append xs (x ∷ []) in
    let some : 0 < length xs = omega arith in
    let place : n - 2 ≡ length xs - 1 = omega arith in
    (some, here ∙ ap (λ (l : List Extent). get_or l (n - 2) z) is ∙ ap (λ (k : ℕ). get_or (xs ++ x ∷ []) k z) place ∙ get_or_append_left xs (x ∷ []) z (length xs - 1) (omega arith))

-- a block in the place of the last extent
pub instead : (all new xs : List Extent) (x e : Extent) → all ≡ xs ++ x ∷ [] → new ≡ take (length all - 1) all ++ e ∷ [] → new ≡ xs ++ e ∷ []
instead all new xs x e is put =
    let count : length all - 1 ≡ length xs = omega (arith, ap length is, length-append xs (x ∷ [])) in
    put ∙ ap (λ (l : List Extent). l ++ e ∷ []) (ap (λ (k : ℕ). take k all) count ∙ ap (take (length xs)) is ∙ take_at xs (x ∷ []) (length xs) refl)

pub last_apart : (xs : List Extent) (b : ℕ) (z : Extent) → z ≡ get_or xs (length xs - 1) z → z.start + z.len ≢ b → (d : Extent) → 0 < length xs → (get_or xs (length xs - 1) d).start + (get_or xs (length xs - 1) d).len ≢ b
last_apart xs b z last apart d some =
    let same : z ≡ get_or xs (length xs - 1) d = last ∙ get_or_default xs (length xs - 1) z d (omega arith) in
    subst (λ (e : Extent). e.start + e.len ≢ b) same apart
