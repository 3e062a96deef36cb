-- Arrays that leave the levels: those that a cursor names are kept.
use Rattle.std.proofs.Common.{◌≡◌, ◌≤◌, ◌<◌, ◌+◌, ℕ, Bool, true, false, inl, inr, List, [], ◌∷◌, ◌++◌, append-nil, length, length-append, take, get_or, refl, sym, ap, ◌∙◌, subst, arith}
use Rattle.std.specs.Prelude.{if◌then◌else◌, nat_le}
use Rattle.std.proofs.lemmas.Bool.{le-leb, lt-leb}
use Rattle.std.proofs.lemmas.List.{take_more}
use Rattle.std.proofs.lemmas.List.Concat.{flat_map-append}
use Rattle.std.proofs.lemmas.List.Elements.{filter-append}
use Rattle.strat_base.proofs.ListFacts.{Among, among_left, among_right}
use Rattle.strat_base.specs.declared.descriptors.ArrayDesc.{ArrayDesc}
use Rattle.strat_base.specs.declared.descriptors.LevelDesc.{LevelDesc}
use Rattle.strat_cursor.proofs.RetiredLemmas.{retired_rest}
use Rattle.strat_cursor.specs.Cursors.{CursorsOver, is_array_named, retired_all, retired_by}
use Rattle.def_split.proofs.ListLemmas.{distinct_append, distinct_head, distinct_tail}
use Rattle.def_publish.specs.Occupied.{arrays_in}
use Rattle.def_state.specs.Level.{is_distinct}
use Rattle.strat_memory.specs.Memory.{Memory}
use Rattle.strat_publish.specs.Publishing.{descs_to}

-- numbers in two lists that are distinct together
pub distinct_parts : (xs ys : List ℕ) → is_distinct (xs ++ ys) ≡ true → (is_distinct xs ≡ true) × (is_distinct ys ≡ true) × ((v : ℕ) → Among v xs → Among v ys → ⊥)
distinct_parts [] ys e = (refl, e, λ v one two. absurd one)
distinct_parts (x ∷ xs) ys e =
    let alone : Among x (xs ++ ys) → ⊥ = distinct_head x (xs ++ ys) e in
    let rest = distinct_parts xs ys (distinct_tail x (xs ++ ys) e) in (
      distinct_append (x ∷ []) xs refl rest.0 (λ v here there. elim here [
        | inl same ↦ alone (among_left xs ys x (subst (λ (n : ℕ). Among n xs) same there))
        | inr none ↦ absurd none
      ]),
      rest.1,
      λ v one two. elim one [
        | inl same ↦ alone (among_right xs ys x (subst (λ (n : ℕ). Among n ys) same two))
        | inr there ↦ rest.2 v there two
      ],
    )

module _ {L : Type 0} where
  abbrev kept_if : Bool → CursorsOver L → ArrayDesc → CursorsOver L
  kept_if b r a = if b then record r { retired = r.retired ++ a ∷ [] } else r

  -- whatever the room is
  room_on : (b : Bool) (r : CursorsOver L) (a : ArrayDesc) (n : ℕ) → kept_if b (record r { room = n }) a ≡ record (kept_if b r a) { room = n }
  room_on true r a n = refl
  room_on false r a n = refl

  pub retired_room : (arrays : List ArrayDesc) (c : CursorsOver L) (n : ℕ) → retired_all arrays (record c { room = n }) ≡ record (retired_all arrays c) { room = n }
  unfolding retired_all
  retired_room [] c n = refl
  retired_room (a ∷ arrays) c n = ap (retired_by a) (retired_room arrays c n) ∙ room_on (is_array_named (retired_all arrays c).opened a.id) (retired_all arrays c) a n

  -- the last ones first
  pub retired_more : (xs ys : List ArrayDesc) (c : CursorsOver L) → retired_all (xs ++ ys) c ≡ retired_all xs (retired_all ys c)
  unfolding retired_all
  retired_more [] ys c = refl
  retired_more (x ∷ xs) ys c = ap (retired_by x) (retired_more xs ys c)

  pub retired_none : (c : CursorsOver L) → retired_all [] c ≡ c
  unfolding retired_all
  retired_none c = refl

  pub retired_last : (xs : List ArrayDesc) (a : ArrayDesc) (c : CursorsOver L) → retired_all (xs ++ a ∷ []) c ≡ retired_all xs (retired_by a c)
  unfolding retired_all
  retired_last xs a c = retired_more xs (a ∷ []) c

  -- they are no more than these and those of before
  few_on : (b : Bool) (r : CursorsOver L) (a : ArrayDesc) → length (kept_if b r a).retired ≤ length r.retired + 1
  few_on true r a = let more = length-append r.retired (a ∷ []) in omega (arith, more)
  few_on false r a = omega arith

  pub retired_one : (a : ArrayDesc) (c : CursorsOver L) → (length (retired_by a c).retired ≤ length c.retired + 1) × ((retired_by a c).room ≡ c.room)
  retired_one a c = (few_on (is_array_named c.opened a.id) c a, by (is_array_named c.opened a.id))
    where
      by : (b : Bool) → (kept_if b c a).room ≡ c.room
      by true = refl
      by false = refl

  pub retired_few : (arrays : List ArrayDesc) (c : CursorsOver L) → length (retired_all arrays c).retired ≤ length c.retired + length arrays
  unfolding retired_all
  retired_few [] c = omega arith
  retired_few (a ∷ arrays) c =
      let rest = retired_few arrays c in
      let one = few_on (is_array_named (retired_all arrays c).opened a.id) (retired_all arrays c) a in
      omega (arith, rest, one)

-- arrays are retired in turn, the last one first: these are left
pub record Retires (old : Memory) (arrays : List ArrayDesc) (now : Memory) (left : List ArrayDesc) : Type 0 where
  pub same : now ≡ record old { cursors = now.cursors }
  pub going : retired_all left now.cursors ≡ retired_all arrays old.cursors
  pub room : length now.cursors.retired + length left ≤ now.cursors.room
  pub few : length now.cursors.retired + length left ≤ length old.cursors.retired + length arrays

-- one more
pub retires_one : (old : Memory) (arrays : List ArrayDesc) (now next : Memory) (left rest : List ArrayDesc) (a : ArrayDesc) → Retires old arrays now left → left ≡ rest ++ a ∷ []
    → next ≡ record now { cursors = retired_by a now.cursors } → Retires old arrays next rest
retires_one old arrays now next left rest a so left_is is =
    let cursors : next.cursors ≡ retired_by a now.cursors = ap (λ (m : Memory). m.cursors) is in
    let one = retired_one a now.cursors in
    let many = length-append rest (a ∷ []) in
    let size = ap (λ (xs : List ArrayDesc). length xs) left_is in
    let kept = ap (λ c. length c.retired) cursors in
    let room = ap (λ c. c.room) cursors in
    let before = so.room in
    let most = so.few in
    record {
      same = is ∙ (λ i. record (so.same i) { cursors = sym cursors i });
      going = ap (retired_all rest) cursors ∙ sym (retired_last rest a now.cursors) ∙ ap (λ (xs : List ArrayDesc). retired_all xs now.cursors) (sym left_is) ∙ so.going;
      room = omega (arith, before, one.0, one.1, many, size, kept, room);
      few = omega (arith, most, one.0, many, size, kept);
    }

pub retires_all : (old : Memory) (arrays : List ArrayDesc) (now : Memory) (left : List ArrayDesc) → Retires old arrays now left → left ≡ [] → now ≡ record old { cursors = retired_all arrays old.cursors }
retires_all old arrays now left so none =
    so.same ∙ (λ i. record old { cursors = (sym (retired_none now.cursors) ∙ ap (λ (xs : List ArrayDesc). retired_all xs now.cursors) (sym none) ∙ so.going) i })

-- levels are retired in turn, those down to a number, the last one first
pub record RetiresTo (target : ℕ) (old : Memory) (levels : List LevelDesc) (now : Memory) (left : List LevelDesc) : Type 0 where
  pub same : now ≡ record old { cursors = now.cursors }
  pub going : retired_all (arrays_in (descs_to target left)) now.cursors ≡ retired_all (arrays_in (descs_to target levels)) old.cursors
  pub room : length now.cursors.retired + length (arrays_in left) ≤ now.cursors.room

module _ (target : ℕ) (old : Memory) (levels : List LevelDesc) where
  pub levels_none : length old.cursors.retired + length (arrays_in levels) ≤ old.cursors.room → RetiresTo target old levels old levels
  levels_none room = record { same = refl; going = refl; room = room }

  pub levels_all : (now : Memory) (left : List LevelDesc) → RetiresTo target old levels now left → left ≡ [] → now ≡ record old { cursors = retired_all (arrays_in (descs_to target levels)) old.cursors }
  levels_all now left so none =
      so.same
      ∙ (λ i. record old { cursors = (sym (retired_none now.cursors) ∙ ap (λ (ls : List LevelDesc). retired_all (arrays_in (descs_to target ls)) now.cursors) (sym none) ∙ so.going) i })

  module _ (now : Memory) (left rest : List LevelDesc) (level : LevelDesc) (so : RetiresTo target old levels now left) (left_is : left ≡ rest ++ level ∷ []) where
    arrays_are : arrays_in left ≡ arrays_in rest ++ level.arrays
    arrays_are =
        ap arrays_in left_is ∙ flat_map-append (λ (l : LevelDesc). l.arrays) rest (level ∷ []) ∙ ap (λ (xs : List ArrayDesc). arrays_in rest ++ xs) (append-nil level.arrays)

    count : length (arrays_in left) ≡ length (arrays_in rest) + length level.arrays
    count = ap (λ (xs : List ArrayDesc). length xs) arrays_are ∙ length-append (arrays_in rest) level.arrays

    pub level_fits : length now.cursors.retired + length level.arrays ≤ now.cursors.room
    level_fits = let all = so.room in let many = count in omega (arith, all, many)

    chosen : (b : Bool) → nat_le level.number target ≡ b → arrays_in (descs_to target left) ≡ arrays_in (descs_to target rest) ++ (if b then level.arrays else [])
    chosen b is =
        ap (λ (ls : List LevelDesc). arrays_in (descs_to target ls)) left_is
        ∙ ap arrays_in (filter-append (λ (l : LevelDesc). nat_le l.number target) rest (level ∷ []))
        ∙ flat_map-append (λ (l : LevelDesc). l.arrays) (descs_to target rest) (descs_to target (level ∷ []))
        ∙ ap (λ (xs : List ArrayDesc). arrays_in (descs_to target rest) ++ xs) (by (nat_le level.number target) ∙ ap (λ (t : Bool). if t then level.arrays else []) is)
      where
        by : (t : Bool) → arrays_in (if t then level ∷ [] else []) ≡ (if t then level.arrays else [])
        by true = append-nil level.arrays
        by false = refl

    pub level_taken : (next : Memory) → level.number ≤ target → next ≡ record now { cursors = retired_all level.arrays now.cursors } → RetiresTo target old levels next rest
    level_taken next le is =
        let cursors : next.cursors ≡ retired_all level.arrays now.cursors = ap (λ (m : Memory). m.cursors) is in
        let few = retired_few level.arrays now.cursors in
        let kept = ap (λ c. length c.retired) cursors in
        let room = ap (λ c. c.room) cursors ∙ (retired_rest now.cursors level.arrays).2 in
        let all = so.room in
        let many = count in
        record {
          same = is ∙ (λ i. record (so.same i) { cursors = sym cursors i });
          going = ap (retired_all (arrays_in (descs_to target rest))) cursors
              ∙ sym (retired_more (arrays_in (descs_to target rest)) level.arrays now.cursors)
              ∙ ap (λ (xs : List ArrayDesc). retired_all xs now.cursors) (sym (chosen true (le-leb level.number target le))) ∙ so.going;
          room = omega (arith, all, many, few, kept, room);
        }

    pub level_left : target < level.number → RetiresTo target old levels now rest
    level_left lt =
        let all = so.room in
        let many = count in
        record {
          same = so.same;
          going = ap (λ (xs : List ArrayDesc). retired_all xs now.cursors) (sym (chosen false (lt-leb level.number target lt) ∙ append-nil (arrays_in (descs_to target rest)))) ∙ so.going;
          room = omega (arith, all, many);
        }

-- how many arrays the first levels have
pub counted_more : (levels : List LevelDesc) (i : ℕ) (level : LevelDesc) → i < length levels → level ≡ get_or levels i level
    → length (arrays_in (take (i + 1) levels)) ≡ length (arrays_in (take i levels)) + length level.arrays
counted_more levels i level within is =
    let arrays : LevelDesc → List ArrayDesc = λ l. l.arrays in
    ap (λ (ls : List LevelDesc). length (arrays_in ls)) (take_more levels i level within ∙ ap (λ (l : LevelDesc). take i levels ++ l ∷ []) (sym is))
    ∙ ap (λ (xs : List ArrayDesc). length xs) (flat_map-append arrays (take i levels) (level ∷ []) ∙ ap (λ (xs : List ArrayDesc). arrays_in (take i levels) ++ xs) (append-nil level.arrays))
    ∙ length-append (arrays_in (take i levels)) level.arrays
