-- The passes over the versions below n from which an order is made: sizes from the greatest version
-- down, then intervals from version 0 up.
use Rattle.std.proofs.Common.{◌≡◌, ◌≢◌, ◌<◌, ◌≤◌, ℕ, zero, suc, ◌+◌, ◌-◌, Bool, eqb, cond, get_or, set, inl, inr, List, length, Option, Some, None, refl, sym, ap, ◌∙◌, subst, arith}
use Rattle.std.specs.Option.{option_map_or}
use Rattle.std.proofs.lemmas.Bool.{eq-eqb, ne_eqb, cases_eq, cases_lt}
use Rattle.std.proofs.lemmas.List.{length-set, get_or-set_same, get_or-set_other}
use Rattle.strat_base.specs.Tree.{Parents, parent_of, IsTree}
use Rattle.strat_base.proofs.ResultFacts.{option_cases}
use Rattle.strat_base.proofs.TreeLemmas.{parent_older, root_is_zero}
use Rattle.strat_tree.specs.Intervals.{size_given, sizes_given, passed_up, first_left, AreSizes, AreIntervals}

-- the sum of the first n values
pub total : (ℕ → ℕ) → ℕ → ℕ
total f zero = 0
total f (suc n) = total f n + f n

total_ones : (f : ℕ → ℕ) (n : ℕ) → ((v : ℕ) → v < n → f v ≡ 1) → total f n ≡ n
unfolding total
total_ones f zero ones = refl
total_ones f (suc n) ones =
    let rest : total f n ≡ n = total_ones f n (λ v lt. ones v (omega arith)) in
    let last : f n ≡ 1 = ones n (omega arith) in
    omega arith

total_same : (f g : ℕ → ℕ) (n : ℕ) → ((v : ℕ) → v < n → g v ≡ f v) → total g n ≡ total f n
unfolding total
total_same f g zero same = refl
total_same f g (suc n) same =
    let rest : total g n ≡ total f n = total_same f g n (λ v lt. same v (omega arith)) in
    let last : g n ≡ f n = same n (omega arith) in
    omega arith

total_at : (f : ℕ → ℕ) (n p : ℕ) → p < n → f p ≤ total f n
unfolding total
total_at f zero p lt = absurd (omega arith)
total_at f (suc n) p lt =
    elim (cases_eq p n) [
      | inl same ↦ rw same (omega arith)
      | inr other ↦ let rest : f p ≤ total f n = total_at f n p (omega arith) in omega arith
    ]

-- one value that grows makes the sum grow so
total_grown : (f g : ℕ → ℕ) (n p d : ℕ) → p < n → g p ≡ f p + d → ((v : ℕ) → v < n → v ≢ p → g v ≡ f v) → total g n ≡ total f n + d
unfolding total
total_grown f g zero p d lt grown same = absurd (omega arith)
total_grown f g (suc n) p d lt grown same =
    elim (cases_eq p n) [
      | inl last ↦
          let rest : total g n ≡ total f n = total_same f g n (λ v below'. same v (omega arith) (λ e. absurd (omega arith))) in
          let here : g n ≡ f n + d = subst (λ (x : ℕ). g x ≡ f x + d) last grown in
          omega arith
      | inr other ↦
          let rest : total g n ≡ total f n + d = total_grown f g n p d (omega arith) grown (λ v below' ne. same v (omega arith) ne) in
          let here : g n ≡ f n = same n (omega arith) (λ e. other (sym e)) in
          omega arith
    ]

module _ (parents : Parents) (size : ℕ → ℕ) where
  given_child : (w v : ℕ) → parent_of parents v ≡ Some w → size_given parents size w v ≡ size v
  given_child w v some =
      ap (λ (o : Option ℕ). option_map_or (λ p. cond (eqb p w) (size v) 0) o 0) some
      ∙ ap (λ (b : Bool). cond b (size v) 0) (eq-eqb w w refl)

  given_other : (w v p : ℕ) → parent_of parents v ≡ Some p → p ≢ w → size_given parents size w v ≡ 0
  given_other w v p some other =
      ap (λ (o : Option ℕ). option_map_or (λ p. cond (eqb p w) (size v) 0) o 0) some
      ∙ ap (λ (b : Bool). cond b (size v) 0) (ne_eqb p w other)

  given_step : (w i n : ℕ) → i < n → sizes_given parents size w i (n - i) ≡ size_given parents size w i + sizes_given parents size w (i + 1) (n - (i + 1))
  unfolding sizes_given
  given_step w i n lt =
      let steps : n - i ≡ suc (n - (i + 1)) = omega arith in
      ap (sizes_given parents size w i) steps

  given_none : (w n : ℕ) → sizes_given parents size w n (n - n) ≡ 0
  unfolding sizes_given
  given_none w n = let none : n - n ≡ zero = omega arith in ap (sizes_given parents size w n) none

-- values that are the same from i on are given the same
given_same : (parents : Parents) (f g : ℕ → ℕ) (w i k : ℕ) → ((v : ℕ) → i ≤ v → g v ≡ f v) → sizes_given parents g w i k ≡ sizes_given parents f w i k
unfolding sizes_given
given_same parents f g w i zero same = refl
given_same parents f g w i (suc k) same =
    let here : size_given parents g w i ≡ size_given parents f w i
    = ap (λ (x : ℕ). option_map_or (λ p. cond (eqb p w) x 0) (parent_of parents i) 0) (same i (omega arith)) in
    let rest : sizes_given parents g w (i + 1) k ≡ sizes_given parents f w (i + 1) k = given_same parents f g w (i + 1) k (λ v le. same v (omega arith)) in
    omega arith

-- the versions from i on have given their sizes to their parents
pub record IsSized (parents : Parents) (n i : ℕ) (size : ℕ → ℕ) : Type 0 where
  pub bound : i ≤ n
  pub all : total size i ≡ n
  pub done : (w : ℕ) → w < n → i ≤ w → size w ≡ 1 + sizes_given parents size w (w + 1) (n - (w + 1))
  pub due : (w : ℕ) → w < i → size w ≡ 1 + sizes_given parents size w i (n - i)

pub sized_begins : (parents : Parents) (n : ℕ) (size : ℕ → ℕ) → ((v : ℕ) → v < n → size v ≡ 1) → IsSized parents n n size
sized_begins parents n size ones =
    record {
      bound = omega arith;
      all = total_ones size n ones;
      done = λ w known le. absurd (omega arith);
      due = λ w lt. let none : sizes_given parents size w n (n - n) ≡ 0 = given_none parents size w n in let one : size w ≡ 1 = ones w lt in omega arith;
    }

pub sized_ends : (parents : Parents) (n i : ℕ) (size : ℕ → ℕ) → i ≤ 1 → (0 < n → 0 < i) → IsSized parents n i size → AreSizes parents n size
unfolding total
sized_ends parents n i size low some sized =
    record {
      root = λ positive.
          let at : 0 < i = some positive in
          let first : size 0 ≤ total size i = total_at size i 0 at in
          omega (arith, sized.all);
      each = λ w known.
          elim (cases_lt w i) [
            | inl lt ↦ let first : w ≡ 0 = omega arith in let one : i ≡ w + 1 = omega arith in subst (λ (x : ℕ). size w ≡ 1 + sizes_given parents size w x (n - x)) one (sized.due w lt)
            | inr le ↦ sized.done w known le
          ];
    }

-- what is taken over leaves room in a word
pub sized_fits : (parents : Parents) (n i p : ℕ) (size : ℕ → ℕ) → p < i - 1 → IsSized parents n i size → size p + size (i - 1) ≤ n
unfolding total
sized_fits parents n zero p size lt sized = absurd (omega arith)
sized_fits parents n (suc v) p size lt sized =
    let same : suc v - 1 ≡ v = omega arith in
    let first : size p ≤ total size v = total_at size v p (omega arith) in
    rw same (omega (arith, sized.all))

-- the version before i gives its size to its parent
pub sized_step : (parents : Parents) (n v p : ℕ) (f g : ℕ → ℕ) → p < v → parent_of parents v ≡ Some p → g p ≡ f p + f v → ((w : ℕ) → w ≢ p → g w ≡ f w)
    → IsSized parents n (suc v) f → IsSized parents n v g
unfolding total
sized_step parents n v p f g lt some grown same sized =
    let bound : suc v ≤ n = sized.bound in
    let behind : (w : ℕ) → v ≤ w → g w ≡ f w = λ w le. same w (λ e. absurd (omega arith)) in
    let moved : total g v ≡ total f v + f v = total_grown f g v p (f v) lt grown (λ w below' ne. same w ne) in
    let suc_is : suc v ≡ v + 1 = omega arith in
    record {
      bound = omega arith;
      all = omega (arith, sized.all);
      done = λ w known le.
          let here : g w ≡ f w = behind w le in
          let rest : sizes_given parents g w (w + 1) (n - (w + 1)) ≡ sizes_given parents f w (w + 1) (n - (w + 1)) = given_same parents f g w (w + 1) (n - (w + 1)) (λ u above. behind u (omega arith)) in
          elim (cases_eq w v) [
            | inl last ↦
                let was : f w ≡ 1 + sizes_given parents f w (suc v) (n - suc v) = sized.due w (omega arith) in
                let at : suc v ≡ w + 1 = omega arith in
                let was' : f w ≡ 1 + sizes_given parents f w (w + 1) (n - (w + 1)) = subst (λ (x : ℕ). f w ≡ 1 + sizes_given parents f w x (n - x)) at was in
                omega arith
            | inr other ↦
                let was : f w ≡ 1 + sizes_given parents f w (w + 1) (n - (w + 1)) = sized.done w known (omega arith) in
                omega arith
          ];
      due = λ w below'.
          let was : f w ≡ 1 + sizes_given parents f w (v + 1) (n - (v + 1)) = subst (λ (x : ℕ). f w ≡ 1 + sizes_given parents f w x (n - x)) suc_is (sized.due w (omega arith)) in
          let rest : sizes_given parents g w (v + 1) (n - (v + 1)) ≡ sizes_given parents f w (v + 1) (n - (v + 1)) = given_same parents f g w (v + 1) (n - (v + 1)) (λ u above. behind u (omega arith)) in
          let first : sizes_given parents g w v (n - v) ≡ size_given parents g w v + sizes_given parents g w (v + 1) (n - (v + 1)) = given_step parents g w v n (omega arith) in
          let at : g v ≡ f v = behind v (omega arith) in
          elim (cases_eq p w) [
            | inl one ↦
                let mine : size_given parents g w v ≡ g v = given_child parents g w v (subst (λ (x : ℕ). parent_of parents v ≡ Some x) one some) in
                let more : g w ≡ f w + f v = subst (λ (x : ℕ). g x ≡ f x + f v) one grown in
                omega arith
            | inr other ↦
                let none : size_given parents g w v ≡ 0 = given_other parents g w v p some other in
                let kept : g w ≡ f w = same w (λ e. other (sym e)) in
                omega arith
          ];
    }

-- the versions below i have their intervals, whose ends are where their next children begin
pub record IsLaid (parents : Parents) (n i : ℕ) (size start cursor : ℕ → ℕ) : Type 0 where
  pub rest : (w : ℕ) → i ≤ w → w < n → cursor w ≡ size w
  pub left : (w : ℕ) → w < i → cursor w + sizes_given parents size w i (n - i) ≡ start w + size w
  pub own : (w : ℕ) → w < i → start w < cursor w
  pub fits : (w : ℕ) → w < i → start w + size w ≤ n
  pub within : (v p : ℕ) → v < i → parent_of parents v ≡ Some p → (start p < start v) × (start v + size v ≤ cursor p)
  pub apart : (u v p : ℕ) → u < v → v < i → parent_of parents u ≡ Some p → parent_of parents v ≡ Some p → start u + size u ≤ start v

pub laid_begins : (parents : Parents) (n : ℕ) (size start cursor : ℕ → ℕ) → ((w : ℕ) → w < n → cursor w ≡ size w) → IsLaid parents n 0 size start cursor
laid_begins parents n size start cursor same =
    record {
      rest = λ w le known. same w known;
      left = λ w lt. absurd (omega arith);
      own = λ w lt. absurd (omega arith);
      fits = λ w lt. absurd (omega arith);
      within = λ v p lt some. absurd (omega arith);
      apart = λ u v p less lt first second. absurd (omega arith);
    }

pub laid_ends : (parents : Parents) (tree : IsTree parents) (n : ℕ) (size start cursor : ℕ → ℕ) → IsLaid parents n n size start cursor → AreIntervals parents n start cursor
laid_ends parents tree n size start cursor laid =
    let full : (w : ℕ) → w < n → cursor w ≡ start w + size w
    = λ w known. let none : sizes_given parents size w n (n - n) ≡ 0 = given_none parents size w n in omega (arith, laid.left w known) in
    record {
      some = λ v known. laid.own v known;
      within = λ v p known some. let both = laid.within v p known some in (both.0, omega (arith, both.1, full v known));
      apart = λ u v p less known first second. let gap : start u + size u ≤ start v = laid.apart u v p less known first second in omega (arith, full u (omega arith));
    }

-- what a version takes of its parent's interval ends within it
pub laid_fits : (parents : Parents) (n i p : ℕ) (size start cursor : ℕ → ℕ) → p < i → i < n → parent_of parents i ≡ Some p → IsLaid parents n i size start cursor
    → cursor p + size i ≤ n
laid_fits parents n i p size start cursor lt known some laid =
    let left : cursor p + sizes_given parents size p i (n - i) ≡ start p + size p = laid.left p lt in
    let first : sizes_given parents size p i (n - i) ≡ size_given parents size p i + sizes_given parents size p (i + 1) (n - (i + 1)) = given_step parents size p i n known in
    let mine : size_given parents size p i ≡ size i = given_child parents size p i some in
    let fits : start p + size p ≤ n = laid.fits p lt in
    omega arith

module _ (parents : Parents) (tree : IsTree parents) (n i : ℕ) (size start cursor start' cursor' : ℕ → ℕ) (known : i < n) (sizes : AreSizes parents n size) (started : (w : ℕ) → w ≢ i → start' w ≡ start w) (laid : IsLaid parents n i size start cursor) where
  -- a root's interval begins at 0
  laid_root : parent_of parents i ≡ None → i ≡ 0 → start' i ≡ 0 → cursor' i ≡ 1 → ((w : ℕ) → w ≢ i → cursor' w ≡ cursor w) → IsLaid parents n (i + 1) size start' cursor'
  laid_root none first here next same =
      let own_size : size i ≡ 1 + sizes_given parents size i (i + 1) (n - (i + 1)) = sizes.each i known in
      let whole : size 0 ≤ n = sizes.root (omega arith) in
      let whole' : size i ≤ n = subst (λ (x : ℕ). size x ≤ n) (sym first) whole in
      record {
        rest = λ w le in_n. let kept : cursor' w ≡ cursor w = same w (λ e. absurd (omega arith)) in kept ∙ laid.rest w (omega arith) in_n;
        left = λ w lt. let at : w ≡ i = omega arith in rw at (omega arith);
        own = λ w lt. let at : w ≡ i = omega arith in rw at (omega arith);
        fits = λ w lt. let at : w ≡ i = omega arith in rw at (omega arith);
        within = λ v p lt some. let at : v ≡ i = omega arith in let clash : parent_of parents i ≡ Some p = subst (λ (x : ℕ). parent_of parents x ≡ Some p) at some in absurd (cc);
        apart = λ u v p less lt one other. absurd (omega arith);
      }

  -- a child's interval begins where its parent has numbers left
  laid_child : (p : ℕ) → parent_of parents i ≡ Some p → start' i ≡ cursor p → cursor' p ≡ cursor p + size i → cursor' i ≡ cursor p + 1 → ((w : ℕ) → w ≢ p → w ≢ i → cursor' w ≡ cursor w)
      → IsLaid parents n (i + 1) size start' cursor'
  laid_child p some here taken next same =
      let older : p < i = parent_older parents tree i p some in
      let own_size : size i ≡ 1 + sizes_given parents size i (i + 1) (n - (i + 1)) = sizes.each i known in
      let room : cursor p + size i ≤ n = laid_fits parents n i p size start cursor older known some laid in
      let behind : start p < cursor p = laid.own p older in
      let grown : (w : ℕ) → w < i → cursor w ≤ cursor' w
      = λ w lt. elim (cases_eq w p) [ inl one ↦ rw one (omega arith) | inr other ↦ let kept : cursor' w ≡ cursor w = same w other (λ e. absurd (omega arith)) in omega arith ] in
      record {
        rest = λ w le in_n. same w (λ e. absurd (omega arith)) (λ e. absurd (omega arith)) ∙ laid.rest w (omega arith) in_n;
        left = λ w lt.
            elim (cases_eq w i) [
              | inl last ↦ rw last (omega arith)
              | inr old ↦
                  let begun : start' w ≡ start w = started w old in
                  let was : cursor w + sizes_given parents size w i (n - i) ≡ start w + size w = laid.left w (omega arith) in
                  let first : sizes_given parents size w i (n - i) ≡ size_given parents size w i + sizes_given parents size w (i + 1) (n - (i + 1)) = given_step parents size w i n known in
                  elim (cases_eq p w) [
                    | inl one ↦
                        let mine : size_given parents size w i ≡ size i = given_child parents size w i (subst (λ (x : ℕ). parent_of parents i ≡ Some x) one some) in
                        let more : cursor' w ≡ cursor w + size i = subst (λ (x : ℕ). cursor' x ≡ cursor x + size i) one taken in
                        omega arith
                    | inr other ↦
                        let none : size_given parents size w i ≡ 0 = given_other parents size w i p some other in
                        let kept : cursor' w ≡ cursor w = same w (λ e. other (sym e)) old in
                        omega arith
                  ]
            ];
        own = λ w lt.
            elim (cases_eq w i) [
              | inl last ↦ rw last (omega arith)
              | inr old ↦
                  let begun : start' w ≡ start w = started w old in
                  let was : start w < cursor w = laid.own w (omega arith) in
                  let more : cursor w ≤ cursor' w = grown w (omega arith) in
                  omega arith
            ];
        fits = λ w lt.
            elim (cases_eq w i) [
              | inl last ↦ rw last (omega arith)
              | inr old ↦ let begun : start' w ≡ start w = started w old in let was : start w + size w ≤ n = laid.fits w (omega arith) in omega arith
            ];
        within = λ v q lt of_v.
            let less : q < v = parent_older parents tree v q of_v in
            let begun : start' q ≡ start q = started q (λ e. absurd (omega arith)) in
            elim (cases_eq v i) [
              | inl last ↦
                  let of_i : parent_of parents i ≡ Some q = subst (λ (x : ℕ). parent_of parents x ≡ Some q) last of_v in
                  let one : q ≡ p = cc in
                  rw (last, one) (let begun' : start' p ≡ start p = started p (λ e. absurd (omega arith)) in (omega arith, omega arith))
              | inr old ↦
                  let was = laid.within v q (omega arith) of_v in
                  let begun' : start' v ≡ start v = started v old in
                  let more : cursor q ≤ cursor' q = grown q (omega arith) in
                  (omega arith, omega arith)
            ];
        apart = λ u v q less lt of_u of_v.
            let begun : start' u ≡ start u = started u (λ e. absurd (omega arith)) in
            elim (cases_eq v i) [
              | inl last ↦
                  let of_i : parent_of parents i ≡ Some q = subst (λ (x : ℕ). parent_of parents x ≡ Some q) last of_v in
                  let one : q ≡ p = cc in
                  let of_p : parent_of parents u ≡ Some p = cc in
                  let was = laid.within u p (omega arith) of_p in
                  rw last (omega arith)
              | inr old ↦
                  let begun' : start' v ≡ start v = started v old in
                  let was : start u + size u ≤ start v = laid.apart u v q less (omega arith) of_u of_v in
                  omega arith
            ];
      }

-- the values of a list
abbrev pub at_each : List ℕ → ℕ → ℕ
at_each xs v = get_or xs v 0

pub passed_len : (sizes : List ℕ) (parent : Option ℕ) (v : ℕ) → length (passed_up sizes parent v) ≡ length sizes
passed_len sizes None v = refl
passed_len sizes (Some p) v = length-set sizes p (get_or sizes p 0 + get_or sizes v 0)

module _ (parents : Parents) (tree : IsTree parents) (n : ℕ) (few : n ≤ length parents) where
  -- one step of the pass down, on the list of sizes
  pub sizes_next : (i : ℕ) (sizes : List ℕ) → length sizes ≡ n → 1 < i → IsSized parents n i (at_each sizes)
      → IsSized parents n (i - 1) (at_each (passed_up sizes (parent_of parents (i - 1)) (i - 1)))
  sizes_next zero sizes len some sized = absurd (omega arith)
  sizes_next (suc v) sizes len some sized =
      let less : suc v - 1 ≡ v = omega arith in
      rw less (elim (option_cases (parent_of parents v)) [
        | inl none ↦ let root : v ≡ 0 = root_is_zero parents tree v (omega (arith, sized.bound)) none in absurd (omega arith)
        | inr some' ↦
            let p : ℕ = some'.0 in
            let older : p < v = parent_older parents tree v p some'.1 in
            let step = sized_step parents n v p (at_each sizes) (at_each (set sizes p (get_or sizes p 0 + get_or sizes v 0))) older some'.1
            (get_or-set_same sizes p _ 0 (omega (arith, sized.bound)))
            (λ w ne. get_or-set_other sizes p w _ 0 ne)
            sized in
            subst (λ (o : Option ℕ). IsSized parents n v (at_each (passed_up sizes o v))) (sym some'.1) step
      ])

  pub sizes_fit : (i p : ℕ) (sizes : List ℕ) → 1 < i → IsSized parents n i (at_each sizes) → parent_of parents (i - 1) ≡ Some p → (p < n) × (get_or sizes p 0 + get_or sizes (i - 1) 0 ≤ n)
  sizes_fit i p sizes some sized of =
      let older : p < i - 1 = parent_older parents tree (i - 1) p of in
      (omega (arith, sized.bound), sized_fits parents n i p (at_each sizes) older sized)

  -- one step of the pass up, on the lists of starts and ends
  pub lists_next : (i at : ℕ) (size : ℕ → ℕ) (starts ends : List ℕ) → length starts ≡ n → length ends ≡ n → i < n → AreSizes parents n size
      → IsLaid parents n i size (at_each starts) (at_each ends)
      → at ≡ first_left ends (parent_of parents i)
      → IsLaid parents n (i + 1) size (at_each (set starts i at)) (at_each (set (passed_up ends (parent_of parents i) i) i (at + 1)))
  lists_next i at size starts ends starts_len ends_len known sizes laid is =
      let started : (w : ℕ) → w ≢ i → at_each (set starts i at) w ≡ at_each starts w = λ w ne. get_or-set_other starts i w at 0 ne in
      let here : at_each (set starts i at) i ≡ at = get_or-set_same starts i at 0 (omega arith) in
      elim (option_cases (parent_of parents i)) [
        | inl none ↦
            let root : i ≡ 0 = root_is_zero parents tree i (omega arith) none in
            let zero' : at ≡ 0 = subst (λ (o : Option ℕ). at ≡ first_left ends o) none is in
            let step = laid_root parents tree n i size (at_each starts) (at_each ends) (at_each (set starts i at)) (at_each (set ends i (at + 1))) known sizes started laid none root (here ∙ zero')
            (get_or-set_same ends i (at + 1) 0 (omega arith) ∙ ap (λ (x : ℕ). x + 1) zero')
            (λ w ne. get_or-set_other ends i w (at + 1) 0 ne) in
            subst (λ (o : Option ℕ). IsLaid parents n (i + 1) size (at_each (set starts i at)) (at_each (set (passed_up ends o i) i (at + 1)))) (sym none) step
        | inr some ↦
            let p : ℕ = some.0 in
            let older : p < i = parent_older parents tree i p some.1 in
            let next : at ≡ get_or ends p 0 = subst (λ (o : Option ℕ). at ≡ first_left ends o) some.1 is in
            let passed : List ℕ = set ends p (get_or ends p 0 + get_or ends i 0) in
            let whole : get_or ends i 0 ≡ size i = laid.rest i (omega arith) known in
            let step = laid_child parents tree n i size (at_each starts) (at_each ends) (at_each (set starts i at)) (at_each (set passed i (at + 1))) known sizes started laid p some.1 (here ∙ next)
            (get_or-set_other passed i p (at + 1) 0 (λ e. absurd (omega arith)) ∙ get_or-set_same ends p _ 0 (omega arith) ∙ ap (λ (x : ℕ). get_or ends p 0 + x) whole)
            (get_or-set_same passed i (at + 1) 0 (omega (arith, length-set ends p (get_or ends p 0 + get_or ends i 0))) ∙ ap (λ (x : ℕ). x + 1) next)
            (λ w ne other. get_or-set_other passed i w (at + 1) 0 other ∙ get_or-set_other ends p w _ 0 ne) in
            subst (λ (o : Option ℕ). IsLaid parents n (i + 1) size (at_each (set starts i at)) (at_each (set (passed_up ends o i) i (at + 1)))) (sym some.1) step
      ]

  pub lists_fit : (i p : ℕ) (size : ℕ → ℕ) (starts ends : List ℕ) → i < n → IsLaid parents n i size (at_each starts) (at_each ends) → parent_of parents i ≡ Some p
      → (p < n) × (get_or ends p 0 + get_or ends i 0 ≤ n)
  lists_fit i p size starts ends known laid of =
      let older : p < i = parent_older parents tree i p of in
      let whole : get_or ends i 0 ≡ size i = laid.rest i (omega arith) known in
      let room : get_or ends p 0 + size i ≤ n = laid_fits parents n i p size (at_each starts) (at_each ends) older known of laid in
      (omega arith, omega arith)

  pub first_fits : (i at : ℕ) (size : ℕ → ℕ) (starts ends : List ℕ) → i < n → IsLaid parents n i size (at_each starts) (at_each ends) → at ≡ first_left ends (parent_of parents i) → at ≤ n
  first_fits i at size starts ends known laid is =
      elim (option_cases (parent_of parents i)) [
        | inl none ↦ let zero' : at ≡ 0 = subst (λ (o : Option ℕ). at ≡ first_left ends o) none is in omega arith
        | inr some ↦
            let next : at ≡ get_or ends some.0 0 = subst (λ (o : Option ℕ). at ≡ first_left ends o) some.1 is in
            let fits = lists_fit i some.0 size starts ends known laid some.1 in
            omega arith
      ]
