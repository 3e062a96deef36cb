-- Blocks that are marked one after the other, and when each has one use alone.
use Rattle.std.proofs.Common.{◌≡◌, ◌<◌, ◌≤◌, ◌+◌, ◌^◌, ℕ, Bool, true, false, cond, leb, ltb, eqb, not, drop, get_or, length, List, [], ◌∷◌, ◌++◌, inl, inr, refl, sym, ap, ◌∙◌, subst, arith, true≢false, zero, suc}
use Rattle.std.proofs.lemmas.Bool.{and_parts, cases_Bool, leb-true, ltb-true, eqb-true, eq-eqb, ltb-false, not-true, false_from_ne_true}
use Rattle.std.proofs.lemmas.Grind.{flat_map-append}
use Rattle.std.proofs.lemmas.List.{drop_more, drop_all}
use Rattle.std.proofs.lemmas.List.Sums.{sum_by-cons}
use Rattle.std.specs.Bool.{MatchBool}
use Rattle.std.specs.List.{count_by, list_all}
use Rattle.strat_base.proofs.ListFacts.{Among, all_at, any_from}
use Rattle.strat_base.specs.declared.descriptors.ArrayDesc.{ArrayDesc}
use Rattle.strat_base.specs.declared.descriptors.Extent.{Extent}
use Rattle.strat_base.specs.declared.descriptors.LevelDesc.{LevelDesc}
use Rattle.strat_base.specs.Entries.{is_tagged}
use Rattle.strat_extent.proofs.BlockLemmas.{times_listed}
use Rattle.strat_extent.proofs.ChangeLemmas.{free_bounds, is_free_of, uses_used, used_uses, uses_unused, unused_uses}
use Rattle.strat_extent.proofs.CountLemmas.{inside_bounds, times_append}
use Rattle.strat_extent.specs.Blocks.{SpaceView, inside, times_in, is_used, uses}
use Rattle.strat_extent.specs.Change.{IsMarked, CanMark}
use Rattle.def_bytes.specs.Arrays.{blocks_of}
use Rattle.def_bytes.specs.Layout.{first_free}
use Rattle.def_bytes.specs.Manifest.{Manifest, is_lawful_extent}
use Rattle.def_bytes.specs.SuperBlock.{Super}
use Rattle.def_recovery.specs.Opening.{has_own_blocks}
use Rattle.def_publish.proofs.ListLemmas.{among_contained, contained_among}
use Rattle.def_publish.proofs.OccupiedLemmas.{named_times, marked_more, marked_space, uses_both}
use Rattle.def_publish.specs.Contents.{Contents, named_blocks}
use Rattle.def_publish.specs.Occupied.{IsSpaceOf, UsesMore, arrays_in, extents_of}
use Rattle.def_state.specs.Level.{is_distinct}
use Rattle.strat_memory.specs.Belonging.{UsesJust}

-- what can be marked together can be marked in two parts, and the second part after the first
can_front : (s : SpaceView) (xs ys : List Extent) → CanMark s (xs ++ ys) → CanMark s xs
can_front s xs ys can = record {
  free = λ b some. can.free b (omega (arith, some, times_append xs ys b));
  once = λ b. omega (arith, can.once b, times_append xs ys b);
}

can_back : (s t : SpaceView) (xs ys : List Extent) → CanMark s (xs ++ ys) → UsesMore s xs t → CanMark t ys
can_back s t xs ys can more = record {
  free = λ b some.
      let was = free_bounds s b (can.free b (omega (arith, some, times_append xs ys b))) in
      let none : times_in xs b ≡ 0 = omega (arith, some, can.once b, times_append xs ys b) in
      let unused : uses t b ≡ 0 = omega (arith, more.used b, none, unused_uses s b was.2) in
      is_free_of t b (omega (arith, more.first, was.0)) was.1 (uses_unused t b unused);
  once = λ b. omega (arith, can.once b, times_append xs ys b);
}

-- marking so far: what is left of all extents
pub record Marking (old now : SpaceView) (left all : List Extent) : Type 0 where
  pub marked : (t : SpaceView) → UsesMore now left t → UsesMore old all t
  pub can : CanMark old all → CanMark now left

marking_step : (old mid new : SpaceView) (xs left all : List Extent) → Marking old mid (xs ++ left) all → UsesMore mid xs new → Marking old new left all
marking_step old mid new xs left all m more = record {
  marked = λ t rest. m.marked t (uses_both mid new t xs left more rest);
  can = λ can. can_back mid new xs left (m.can can) more;
}

pub marking_ends : (old now : SpaceView) (all : List Extent) → Marking old now [] all → UsesMore old all now
marking_ends old now all m = m.marked now (record { first = refl; used = λ b. omega arith })

module _ (arrays : List ArrayDesc) (i : ℕ) (x : ArrayDesc) (within : i < length arrays) (same : x ≡ get_or arrays i x) (old mid : SpaceView) (all : List Extent) where
  array_first : extents_of (drop i arrays) ≡ x.extents ++ extents_of (drop (i + 1) arrays)
  array_first = ap extents_of (drop_more arrays i x within) ∙ ap (λ (a : ArrayDesc). a.extents ++ extents_of (drop (i + 1) arrays)) (sym same)

  pub array_marked : (new : SpaceView) → Marking old mid (extents_of (drop i arrays)) all → IsMarked mid x.extents new → Marking old new (extents_of (drop (i + 1) arrays)) all
  array_marked new m more = marking_step old mid new x.extents (extents_of (drop (i + 1) arrays)) all (subst (λ (xs : List Extent). Marking old mid xs all) array_first m) (marked_more mid new x.extents more)

  pub array_fails : Marking old mid (extents_of (drop i arrays)) all → (CanMark mid x.extents → ⊥) → CanMark old all → ⊥
  array_fails m none can = none (can_front mid x.extents (extents_of (drop (i + 1) arrays)) (subst (CanMark mid) array_first (m.can can)))

module _ (levels : List LevelDesc) (i : ℕ) (x : LevelDesc) (within : i < length levels) (same : x ≡ get_or levels i x) (old mid : SpaceView) (all : List Extent) where
  abbrev mine : List Extent
  mine = extents_of x.arrays

  level_first : extents_of (arrays_in (drop i levels)) ≡ mine ++ extents_of (arrays_in (drop (i + 1) levels))
  level_first =
      ap (λ (ls : List LevelDesc). extents_of (arrays_in ls)) (drop_more levels i x within)
      ∙ ap (λ (l : LevelDesc). extents_of (l.arrays ++ arrays_in (drop (i + 1) levels))) (sym same)
      ∙ flat_map-append (λ (a : ArrayDesc). a.extents) x.arrays (arrays_in (drop (i + 1) levels))

  pub level_marked : (new : SpaceView) → Marking old mid (extents_of (arrays_in (drop i levels))) all → UsesMore mid mine new → Marking old new (extents_of (arrays_in (drop (i + 1) levels))) all
  level_marked new m more = marking_step old mid new mine (extents_of (arrays_in (drop (i + 1) levels))) all (subst (λ (xs : List Extent). Marking old mid xs all) level_first m) more

  pub level_fails : Marking old mid (extents_of (arrays_in (drop i levels))) all → (CanMark mid mine → ⊥) → CanMark old all → ⊥
  level_fails m none can = none (can_front mid mine (extents_of (arrays_in (drop (i + 1) levels))) (subst (CanMark mid) level_first (m.can can)))

-- nothing is left at the end
pub arrays_end : (arrays : List ArrayDesc) (i : ℕ) (old now : SpaceView) → length arrays ≤ i → Marking old now (extents_of (drop i arrays)) (extents_of arrays) → UsesMore old (extents_of arrays) now
arrays_end arrays i old now past m = marking_ends old now (extents_of arrays) (subst (λ (rs : List ArrayDesc). Marking old now (extents_of rs) (extents_of arrays)) (drop_all i arrays past) m)

pub levels_end : (levels : List LevelDesc) (i : ℕ) (old now : SpaceView) → length levels ≤ i → Marking old now (extents_of (arrays_in (drop i levels))) (extents_of (arrays_in levels)) → UsesMore old (extents_of (arrays_in levels)) now
levels_end levels i old now past m = marking_ends old now (extents_of (arrays_in levels)) (subst (λ (ls : List LevelDesc). Marking old now (extents_of (arrays_in ls)) (extents_of (arrays_in levels))) (drop_all i levels past) m)

-- a mark that was refused cannot be made
pub refused : (marked : Bool) (P : Type 0) → marked ≡ false → (P → marked ≡ true) → P → ⊥
refused marked P no' if_so p = true≢false (sym (if_so p) ∙ no')

-- a chain and what is marked after it
pub chain_fails : (s : SpaceView) (chain rest : List Extent) → (CanMark s chain → ⊥) → CanMark s (chain ++ rest) → ⊥
chain_fails s chain rest none can = none (can_front s chain rest can)

rest_fails : (s t : SpaceView) (chain rest : List Extent) → IsMarked s chain t → (CanMark t rest → ⊥) → CanMark s (chain ++ rest) → ⊥
rest_fails s t chain rest marked none can = none (can_back s t chain rest can (marked_more s t chain marked))

all_marked : (s t u : SpaceView) (chain rest : List Extent) → IsMarked s chain t → UsesMore t rest u → UsesMore s (chain ++ rest) u
all_marked s t u chain rest marked more = uses_both s t u chain rest (marked_more s t chain marked) more

pub marks_both : (marked : Bool) (s t u : SpaceView) (chain rest : List Extent) → IsMarked s chain t → MatchBool marked (UsesMore t rest u) (CanMark t rest → ⊥) → MatchBool marked (UsesMore s (chain ++ rest) u) (CanMark s (chain ++ rest) → ⊥)
marks_both true s t u chain rest marked more = all_marked s t u chain rest marked more
marks_both false s t u chain rest marked none = rest_fails s t chain rest marked none

-- a number stands in a list where it is counted
abbrev pub counted : List ℕ → ℕ → ℕ
counted xs b = count_by (λ other. eqb other b) xs

pub counted_cons : (x : ℕ) (xs : List ℕ) (b : ℕ) → counted (x ∷ xs) b ≡ cond (eqb x b) 1 0 + counted xs b
counted_cons x xs b = sum_by-cons (λ (a : ℕ). cond (eqb a b) 1 0) x xs

eqb_itself : (b : ℕ) → eqb b b ≡ true
eqb_itself b = eq-eqb b b refl

pub counted_among : (xs : List ℕ) (b : ℕ) → 0 < counted xs b → Among b xs
counted_among [] b some = absurd (omega (arith, some))
counted_among (x ∷ xs) b some =
    elim (cases_Bool (eqb x b)) [
      | inl same ↦ inl (sym (eqb-true x b same))
      | inr other ↦ inr (counted_among xs b (omega (arith, some, counted_cons x xs b, ap (λ (t : Bool). cond {A = ℕ} t 1 0) other)))
    ]

pub among_counted : (xs : List ℕ) (b : ℕ) → Among b xs → 0 < counted xs b
among_counted [] b there = absurd there
among_counted (x ∷ xs) b (inl here) = omega (arith, counted_cons x xs b, ap (λ (t : Bool). cond {A = ℕ} t 1 0) (ap (λ (a : ℕ). eqb a b) (sym here) ∙ eqb_itself b))
among_counted (x ∷ xs) b (inr there) = omega (arith, counted_cons x xs b, among_counted xs b there)

-- a number that stands in none is not counted, and in distinct numbers each is counted once at most
pub once_counted : (xs : List ℕ) (b : ℕ) → is_distinct xs ≡ true → counted xs b ≤ 1
once_counted [] b own = omega arith
once_counted (x ∷ xs) b own =
    let parts = and_parts (not (is_tagged xs x)) (is_distinct xs) own in
    elim (cases_Bool (eqb x b)) [
      | inl same ↦
          let none : counted xs b ≤ 0 = le_from_no (counted xs b) (λ some.
          true≢false (sym (any_from (λ w. eqb w x) b xs (counted_among xs b some) (ap (λ (a : ℕ). eqb b a) (eqb-true x b same) ∙ eqb_itself b)) ∙ not-true (is_tagged xs x) parts.0)) in
          omega (arith, counted_cons x xs b, none, ap (λ (t : Bool). cond {A = ℕ} t 1 0) same)
      | inr other ↦ omega (arith, counted_cons x xs b, once_counted xs b parts.1, ap (λ (t : Bool). cond {A = ℕ} t 1 0) other)
    ]
  where
    le_from_no : (n : ℕ) → (0 < n → ⊥) → n ≤ 0
    le_from_no zero no' = omega arith
    le_from_no (suc n) no' = absurd (no' (omega arith))

-- a space in which the blocks of contents just are used
pub just_used : (s : SpaceView) (x : Contents) → IsSpaceOf s x [] → UsesJust s (first_free x.sb.mem) (named_blocks x)
just_used s x is = record {
  first_is = is.first;
  used = λ b. (
    λ used. among_contained (named_blocks x) b (counted_among (named_blocks x) b (omega (arith, is.used b, used_uses s b used))),
    λ there. uses_used s b (omega (arith, is.used b, among_counted (named_blocks x) b (contained_among (named_blocks x) b there))),
  );
}

-- the blocks of lawful extents have numbers
pub below_end : (xs : List Extent) (b : ℕ) → list_all is_lawful_extent xs ≡ true → 0 < times_in xs b → b < 4294967295
below_end [] b lawful some = absurd (omega (arith, some))
below_end (x ∷ xs) b lawful some =
    let parts = and_parts (is_lawful_extent x) (list_all is_lawful_extent xs) lawful in
    let ends = ltb-true (x.start + x.len) (2 ^ 32) (and_parts (leb 1 x.len) (ltb (x.start + x.len) (2 ^ 32)) parts.0).1 in
    elim (cases_Bool (ltb 0 (inside x.start (x.start + x.len) b))) [
      | inl here ↦ omega (arith, ends, (inside_bounds x.start (x.start + x.len) b (ltb-true 0 (inside x.start (x.start + x.len) b) here)).1)
      | inr no' ↦ below_end xs b parts.1 (omega (arith, some, ltb-false 0 (inside x.start (x.start + x.len) b) no'))
    ]

-- blocks that are their own can be marked where none is used
pub own_can : (s : SpaceView) (mem : ℕ) (chain : List Extent) (levels : List LevelDesc) (sb : Super) (m : Manifest) → s.first ≡ first_free mem → ((b : ℕ) → is_used s b ≡ false)
    → sb.mem ≡ mem → m.levels ≡ levels → ((b : ℕ) → 0 < times_in (chain ++ extents_of (arrays_in levels)) b → b < 4294967295)
    → has_own_blocks sb (blocks_of chain) m ≡ true → CanMark s (chain ++ extents_of (arrays_in levels))
own_can s mem chain levels sb m first none mem_is levels_are low own =
    let x : Contents = record { slot = 0; sb = sb; chained = record { manifest = m; blocks = blocks_of chain }; journal = []; levels = [] } in
    let parts = and_parts (is_distinct (named_blocks x)) (list_all (λ b. leb (first_free sb.mem) b) (named_blocks x)) own in
    let times : (b : ℕ) → times_in (chain ++ extents_of (arrays_in levels)) b ≡ counted (named_blocks x) b = λ b.
    omega (
      arith,
      named_times x b,
      times_listed chain b,
      times_append chain (extents_of (arrays_in levels)) b,
      ap (λ (ls : List LevelDesc). times_in (extents_of (arrays_in ls)) b) levels_are,
    ) in
    record {
      free = λ b some.
          let high = leb-true (first_free sb.mem) b (all_at (λ b. leb (first_free sb.mem) b) b (named_blocks x) parts.1 (counted_among (named_blocks x) b (omega (arith, some, times b)))) in
          is_free_of s b (omega (arith, first, ap first_free mem_is, high)) (low b some) (none b);
      once = λ b. omega (arith, times b, once_counted (named_blocks x) b parts.0);
    }

-- the blocks of a chain and of lawful extents have numbers
numbered : (chain xs : List Extent) → list_all (λ b. ltb b 4294967295) (blocks_of chain) ≡ true → list_all is_lawful_extent xs ≡ true → (b : ℕ) → 0 < times_in (chain ++ xs) b → b < 4294967295
numbered chain xs low lawful b some =
    elim (cases_Bool (ltb 0 (times_in chain b))) [
      | inl here ↦ ltb-true b 4294967295 (all_at (λ b. ltb b 4294967295) b (blocks_of chain) low (counted_among (blocks_of chain) b (omega (arith, ltb-true 0 (times_in chain b) here, times_listed chain b))))
      | inr no' ↦ below_end xs b lawful (omega (arith, some, times_append chain xs b, ltb-false 0 (times_in chain b) no'))
    ]

pub not_own : (s : SpaceView) (mem : ℕ) (chain : List Extent) (levels : List LevelDesc) → s.first ≡ first_free mem → ((b : ℕ) → is_used s b ≡ false)
    → (CanMark s (chain ++ extents_of (arrays_in levels)) → ⊥)
    → (sb : Super) (m : Manifest) → sb.mem ≡ mem → m.levels ≡ levels → list_all (λ b. ltb b 4294967295) (blocks_of chain) ≡ true
    → list_all is_lawful_extent (extents_of (arrays_in levels)) ≡ true → has_own_blocks sb (blocks_of chain) m ≡ false
not_own s mem chain levels first none fails sb m mem_is levels_are low lawful =
    false_from_ne_true (has_own_blocks sb (blocks_of chain) m) (λ own. fails (own_can s mem chain levels sb m first none mem_is levels_are (numbered chain (extents_of (arrays_in levels)) low lawful) own))

-- the space of contents that have this chain and these levels
pub is_space : (s t : SpaceView) (mem : ℕ) (chain : List Extent) (levels : List LevelDesc) → s.first ≡ first_free mem → ((b : ℕ) → is_used s b ≡ false) → UsesMore s (chain ++ extents_of (arrays_in levels)) t
    → (x : Contents) → x.sb.mem ≡ mem → x.chained.blocks ≡ blocks_of chain → x.chained.manifest.levels ≡ levels
    → IsSpaceOf t x [] × UsesJust t (first_free x.sb.mem) (named_blocks x)
is_space s t mem chain levels first none more x mem_is chain_is levels_are =
    let is = marked_space s t x chain (first ∙ ap first_free (sym mem_is)) none (sym chain_is)
    (subst (λ (ls : List LevelDesc). UsesMore s (chain ++ extents_of (arrays_in ls)) t) (sym levels_are) more) in
    (is, just_used t x is)
