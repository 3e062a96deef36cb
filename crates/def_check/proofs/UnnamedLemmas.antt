-- Which rules a check never names.
use Rattle.std.proofs.Common.{◌≡◌, ◌≤◌, ◌+◌, ℕ, Bool, true, false, ◌&&◌, ◌⊎◌, inl, inr, List, [], ◌∷◌, ◌++◌, length, length-append, ltb, eqb, Option, None, Some, Ok, refl, sym, ap, subst, ◌∙◌, arith}
use Rattle.std.specs.List.{flat_map, sum_by, list_all, slice_get}
use Rattle.std.specs.Option.{option_or}
use Rattle.std.proofs.lemmas.Bool.{and_parts, leb-true, le-leb, eqb-true}
use Rattle.std.proofs.lemmas.List.Sums.{sum_by-cons, sum_by-append}
use Rattle.strat_base.specs.Entries.{Entry}
use Rattle.strat_base.specs.declared.descriptors.ArrayDesc.{ArrayDesc}
use Rattle.strat_base.specs.declared.descriptors.LevelDesc.{LevelDesc}
use Rattle.strat_base.proofs.ListFacts.{Among, all_at, all_from, among_flat, empty_each, flat_empty}
use Rattle.def_crash.specs.Image.{Image}
use Rattle.def_bytes.specs.Arrays.{all_some, blocks_of, entries_on}
use Rattle.def_bytes.specs.Chained.{Chained, manifest_at}
use Rattle.def_bytes.specs.Damage.{passed_or}
use Rattle.def_bytes.specs.Manifest.{Manifest}
use Rattle.def_bytes.specs.SuperBlock.{Super}
use Rattle.def_bytes.proofs.DamageLemmas.{and_then_ok, passed_ok}
use Rattle.def_bytes.proofs.ManifestLemmas.{pass_at}
use Rattle.def_recovery.specs.Head.{descriptors}
use Rattle.def_recovery.specs.Opened.{array_on, level_on, parents_in}
use Rattle.def_recovery.specs.Opening.{reads_as, belongs, has_own_versions}
use Rattle.def_recovery.proofs.OpeningLemmas.{map_some, each_some, state_found}
use Rattle.def_recovery.proofs.PassedLemmas.{belonging_tests}
use Rattle.def_state.specs.Breach.{Breach, breach, breach_unless, breaches, level_breaches, array_breaches}
use Rattle.def_state.specs.Level.{TaggedArray, Level, own_leads, level_leads, has_disjoint_tags, has_live_tagged, agrees, is_dense, is_led, is_drawn, has_single_leads, is_distinct, least_live}
use Rattle.def_state.specs.Sound.{has_room, has_old_horizon, is_above_frozen, is_described, has_few_leads, has_ascending_entries}
use Rattle.def_state.specs.State.{State, versions_of}
use Rattle.def_state.proofs.LevelLemmas.{ordered_single}
use Rattle.def_check.specs.Checked.{checked}
use Rattle.def_check.specs.Firsts.{by_rule, first_in}
use Rattle.def_check.proofs.CheckedLemmas.{checked_state}
use Rattle.def_check.proofs.FirstLemmas.{first_of_rules}

-- breaches of a rule have its letter

unless_is : (t : Bool) (x b : Breach) → Among b (breach_unless t x) → b ≡ x
unless_is true x b among = absurd among
unless_is false x b (inl same) = same
unless_is false x b (inr none) = absurd none

unless_passed : (t : Bool) (x : Breach) → breach_unless t x ≡ [] → t ≡ true
unless_passed true x e = refl
unless_passed false x e = absurd (cc)

unless_none : (t : Bool) (x : Breach) → t ≡ true → breach_unless t x ≡ []
unless_none t x e = ap (λ (p : Bool). breach_unless p x) e

level_rule : (s : State) (rule : ℕ) (test : Level → Bool) (b : Breach) → Among b (level_breaches s rule test) → b.rule ≡ rule
level_rule s rule test b among =
    let at = among_flat (λ (l : Level). breach_unless (test l) (breach rule l.number 0)) s.levels b among in
    ap (λ (x : Breach). x.rule) (unless_is (test at.0) (breach rule at.0.number 0) b at.2)

array_rule : (s : State) (rule : ℕ) (test : Level → TaggedArray → Bool) (b : Breach) → Among b (array_breaches s rule test) → b.rule ≡ rule
array_rule s rule test b among =
    let at = among_flat (λ (l : Level). flat_map (λ (a : TaggedArray). breach_unless (test l a) (breach rule l.number a.id)) l.arrays) s.levels b among in
    let in' = among_flat (λ (a : TaggedArray). breach_unless (test at.0 a) (breach rule at.0.number a.id)) at.0.arrays b at.2 in
    ap (λ (x : Breach). x.rule) (unless_is (test at.0 in'.0) (breach rule at.0.number in'.0.id) b in'.2)

-- the first of a list and of what is behind is in the list, or that is empty
first_of : (xs : List Breach) (rest : Option Breach) (b : Breach) → option_or (slice_get xs 0) rest ≡ Some b → Among b xs ⊎ ((xs ≡ []) × (rest ≡ Some b))
first_of [] rest b e = inr (refl, e)
first_of (x ∷ xs) rest b e = let same : b ≡ x = cc in inl (inl same)

-- what a rule of arrays says where nothing breaks it
array_passes : (s : State) (rule : ℕ) (test : Level → TaggedArray → Bool) → array_breaches s rule test ≡ [] → (level : Level) → Among level s.levels → (a : TaggedArray) → Among a level.arrays → test level a ≡ true
array_passes s rule test e level here a among =
    unless_passed (test level a) (breach rule level.number a.id)
    (empty_each (λ (x : TaggedArray). breach_unless (test level x) (breach rule level.number x.id)) level.arrays a
    (empty_each (λ (l : Level). flat_map (λ (x : TaggedArray). breach_unless (test l x) (breach rule l.number x.id)) l.arrays) s.levels level e here) among)

level_passed : (s : State) (rule : ℕ) (test : Level → Bool) → ((level : Level) → Among level s.levels → test level ≡ true) → level_breaches s rule test ≡ []
level_passed s rule test each = flat_empty (λ (l : Level). breach_unless (test l) (breach rule l.number 0)) s.levels (λ l here. unless_none (test l) (breach rule l.number 0) (each l here))

-- the levels that are read have the descriptors' horizons, tags and numbers of leads

level_read : (c : Image) (d : LevelDesc) (level : Level) → level_on c d ≡ Some level → (all_some (array_on c) d.arrays ≡ Some level.arrays) × (level.horizon ≡ d.horizon)
level_read c d level e =
    let made = map_some (λ arrays. record { number = d.number; horizon = d.horizon; arrays = arrays }) (all_some (array_on c) d.arrays) level e in
    (made.1 ∙ ap (λ (x : Level). Some x.arrays) made.2, ap (λ (x : Level). x.horizon) (sym made.2))

array_read : (c : Image) (d : ArrayDesc) (a : TaggedArray) → array_on c d ≡ Some a → (a.tag ≡ d.versions) × (a.leads ≡ d.leads)
array_read c d a e =
    let made = map_some (λ entries. record { id = d.id; tag = d.versions; content = entries; entries = d.entries; leads = d.leads; least = d.least }) (entries_on c (blocks_of d.extents)) a e in
    (ap (λ (x : TaggedArray). x.tag) (sym made.2), ap (λ (x : TaggedArray). x.leads) (sym made.2))

tags_read : (c : Image) (ds : List ArrayDesc) (arrays : List TaggedArray) → all_some (array_on c) ds ≡ Some arrays → flat_map (λ (a : TaggedArray). a.tag) arrays ≡ flat_map (λ (a : ArrayDesc). a.versions) ds
tags_read c [] arrays e = let none : [] ≡ arrays = cc in ap (flat_map (λ (a : TaggedArray). a.tag)) (sym none)
tags_read c (d ∷ ds) arrays e =
    let parts = each_some (array_on c) d ds arrays e in
    ap (flat_map (λ (a : TaggedArray). a.tag)) (sym parts.4) ∙ (λ i. (array_read c d parts.0 parts.2).0 i ++ tags_read c ds parts.1 parts.3 i)

leads_read : (c : Image) (ds : List ArrayDesc) (arrays : List TaggedArray) → all_some (array_on c) ds ≡ Some arrays
    → ((a : TaggedArray) → Among a arrays → a.leads ≡ length (own_leads a))
    → length (flat_map own_leads arrays) ≡ sum_by (λ (a : ArrayDesc). a.leads) ds
leads_read c [] arrays e each = let none : [] ≡ arrays = cc in ap (λ (xs : List TaggedArray). length (flat_map own_leads xs)) (sym none)
leads_read c (d ∷ ds) arrays e each =
    let parts = each_some (array_on c) d ds arrays e in
    let its : (a : TaggedArray) → Among a (parts.0 ∷ parts.1) → a.leads ≡ length (own_leads a) = λ a among. each a (subst (Among a) parts.4 among) in
    let rest = leads_read c ds parts.1 parts.3 (λ a among. its a (inr among)) in
    let front = its parts.0 (inl refl) in
    let same = (array_read c d parts.0 parts.2).1 in
    let whole = length-append {A = Entry} (own_leads parts.0) (flat_map own_leads parts.1) in
    let sum = sum_by-cons (λ (a : ArrayDesc). a.leads) d ds in
    ap (λ (xs : List TaggedArray). length (flat_map own_leads xs)) (sym parts.4) ∙ omega (arith, rest, front, same, whole, sum)

all_leads_read : (c : Image) (ds : List LevelDesc) (levels : List Level) → all_some (level_on c) ds ≡ Some levels
    → ((level : Level) → Among level levels → (a : TaggedArray) → Among a level.arrays → a.leads ≡ length (own_leads a))
    → sum_by (λ (level : Level). length (level_leads level)) levels ≡ sum_by (λ (a : ArrayDesc). a.leads) (flat_map (λ (l : LevelDesc). l.arrays) ds)
all_leads_read c [] levels e each = let none : [] ≡ levels = cc in ap (sum_by (λ (level : Level). length (level_leads level))) (sym none)
all_leads_read c (d ∷ ds) levels e each =
    let parts = each_some (level_on c) d ds levels e in
    let its : (level : Level) → Among level (parts.0 ∷ parts.1) → (a : TaggedArray) → Among a level.arrays → a.leads ≡ length (own_leads a) = λ level among. each level (subst (Among level) parts.4 among) in
    let rest = all_leads_read c ds parts.1 parts.3 (λ level among. its level (inr among)) in
    let front = leads_read c d.arrays parts.0.arrays (level_read c d parts.0 parts.2).0 (its parts.0 (inl refl)) in
    let cons = sum_by-cons (λ (level : Level). length (level_leads level)) parts.0 parts.1 in
    let both = sum_by-append (λ (a : ArrayDesc). a.leads) d.arrays (flat_map (λ (l : LevelDesc). l.arrays) ds) in
    ap (sum_by (λ (level : Level). length (level_leads level))) (sym parts.4) ∙ omega (arith, rest, front, cons, both)

some_back : {A B : Type 0} (g : A → Option B) (xs : List A) (ys : List B) (y : B) → all_some g xs ≡ Some ys → Among y ys → (x : A) × Among x xs × (g x ≡ Some y)
some_back g [] ys y e among = let none : [] ≡ ys = cc in absurd (subst (Among y) (sym none) among)
some_back g (x ∷ xs) ys y e among =
    let parts = each_some g x xs ys e in
    go parts.0 parts.1 parts.2 (subst (Among y) (sym parts.4) among) (some_back g xs parts.1 y parts.3)
  where
    go : (z : _) (zs : List _) → g x ≡ Some z → Among y (z ∷ zs) → (Among y zs → (w : _) × Among w xs × (g w ≡ Some y)) → (w : _) × Among w (x ∷ xs) × (g w ≡ Some y)
    go z zs here (inl same) more = (x, inl refl, here ∙ ap (λ w. Some w) (sym same))
    go z zs here (inr there) more = let found = more there in (found.0, inr found.1, found.2)

-- what an opening tested of a state: the tags of a level do not meet, and where descriptors tell the leads these are no more
-- than the updates
pub record IsTested (s : State) : Type 0 where
  pub disjoint : (level : Level) → Among level s.levels → has_disjoint_tags level ≡ true
  pub few : ((level : Level) → Among level s.levels → (a : TaggedArray) → Among a level.arrays → a.leads ≡ length (own_leads a)) → has_few_leads s ≡ true

tested : (c : Image) (s : State) → reads_as c ≡ Some s → IsTested s
tested c s reads =
    let f = state_found c s reads in
    let m : Manifest = f.manifest in
    let sb : Super = f.slot.1 in
    let chained = and_then_ok (manifest_at sb.format c sb.manifest sb.length) (λ (x : Chained). passed_or sb.manifest (belongs sb x) x.manifest) m f.chained in
    let here = passed_ok sb.manifest (belongs sb chained.0) chained.0.manifest m chained.2 in
    let made = map_some (λ (levels : List Level). record {
      mem = sb.mem;
      changes_max = sb.changes_max;
      versions_max = sb.versions_max;
      parents = parents_in m;
      marks = m.marks;
      changes = m.changes;
      updates = m.updates;
      written = m.written;
      compacted = m.compacted;
      next_array = m.next_array;
      levels = levels;
      journal = f.journal;
    }) (all_some (level_on c) m.levels) s f.state in
    let read : all_some (level_on c) m.levels ≡ Some s.levels = made.1 ∙ ap (λ (x : State). Some x.levels) made.2 in
    let own : list_all has_own_versions m.levels ≡ true = ap (λ (x : Manifest). list_all has_own_versions x.levels) (sym here.1) ∙ pass_at (belonging_tests sb chained.0) 2 here.0 in
    let few : sum_by (λ (a : ArrayDesc). a.leads) (descriptors m) ≤ m.updates = subst (λ (x : Manifest). sum_by (λ (a : ArrayDesc). a.leads) (descriptors x) ≤ x.updates) here.1 (leb-true (sum_by (λ (a : ArrayDesc). a.leads) (descriptors chained.0.manifest)) chained.0.manifest.updates (pass_at (belonging_tests sb chained.0) 5 here.0)) in
    let updates : s.updates ≡ m.updates = ap (λ (x : State). x.updates) (sym made.2) in
    record {
      disjoint = λ level among.
          let d = some_back (level_on c) m.levels s.levels level read among in
          let its = level_read c d.0 level d.2 in
          (λ i. is_distinct (tags_read c d.0.arrays level.arrays its.0 i) && list_all (λ v. ltb v (its.1 i)) (tags_read c d.0.arrays level.arrays its.0 i)) ∙ all_at has_own_versions d.0 m.levels own d.1;
      few = λ each.
          let sum = all_leads_read c m.levels s.levels read each in
          le-leb (sum_by (λ (level : Level). length (level_leads level)) s.levels) s.updates (omega (arith, sum, few, updates));
    }

-- the first breach of a state that was tested so is none of three rules
module _ (s : State) (tests : IsTested s) (b : Breach) where
  abbrev Other : Type 0
  Other = (b.rule ≡ 97 → ⊥) × (b.rule ≡ 103 → ⊥) × (b.rule ≡ 108 → ⊥)

  aside : (rule : ℕ) → b.rule ≡ rule → (rule ≡ 97 → ⊥) → (rule ≡ 103 → ⊥) → (rule ≡ 108 → ⊥) → Other
  aside rule is a g l = (λ e. a (sym is ∙ e), λ e. g (sym is ∙ e), λ e. l (sym is ∙ e))

  -- a rule that is none of them is the first, or nothing breaks it and the others are left
  past : (rule : ℕ) (xs : List Breach) (rest : Option Breach) → ((x : Breach) → Among x xs → x.rule ≡ rule) → (rule ≡ 97 → ⊥) → (rule ≡ 103 → ⊥) → (rule ≡ 108 → ⊥)
      → option_or (slice_get xs 0) rest ≡ Some b → Other ⊎ ((xs ≡ []) × (rest ≡ Some b))
  past rule xs rest each a g l e = elim (first_of xs rest b e) [ inl among ↦ inl (aside rule (each b among) a g l) | inr more ↦ inr more ]

  -- a rule that nothing breaks
  none : (xs : List Breach) (rest : Option Breach) → xs ≡ [] → option_or (slice_get xs 0) rest ≡ Some b → rest ≡ Some b
  none xs rest is e = ap (λ (zs : List Breach). option_or (slice_get zs 0) rest) (sym is) ∙ e

  abbrev ordered : Level → TaggedArray → Bool
  ordered level a = has_ascending_entries a

  abbrev dense : Level → TaggedArray → Bool
  dense level a = is_dense (versions_of s) a

  abbrev led : Level → TaggedArray → Bool
  led level a = is_led a

  abbrev described : Level → TaggedArray → Bool
  described level a = is_described s a

  abbrev from_l : Option Breach
  from_l = option_or (slice_get (breach_unless (has_few_leads s) (breach 108 0 0)) 0) None

  -- what is tried from a rule on
  abbrev from_k : Option Breach
  from_k = option_or (slice_get (array_breaches s 107 described) 0) from_l

  abbrev from_j : Option Breach
  from_j = option_or (slice_get (level_breaches s 106 (is_above_frozen s)) 0) from_k

  abbrev from_i : Option Breach
  from_i = option_or (slice_get (level_breaches s 105 (has_old_horizon s)) 0) from_j

  abbrev from_h : Option Breach
  from_h = option_or (slice_get (level_breaches s 104 (has_room s)) 0) from_i

  abbrev from_g : Option Breach
  from_g = option_or (slice_get (level_breaches s 103 has_single_leads) 0) from_h

  abbrev from_f : Option Breach
  from_f = option_or (slice_get (array_breaches s 102 is_drawn) 0) from_g

  abbrev from_e : Option Breach
  from_e = option_or (slice_get (array_breaches s 101 led) 0) from_f

  abbrev from_d : Option Breach
  from_d = option_or (slice_get (array_breaches s 100 dense) 0) from_e

  abbrev from_c : Option Breach
  from_c = option_or (slice_get (array_breaches s 99 (agrees (versions_of s))) 0) from_d

  abbrev from_b : Option Breach
  from_b = option_or (slice_get (level_breaches s 98 (has_live_tagged (versions_of s))) 0) from_c

  abbrev from_a : Option Breach
  from_a = option_or (slice_get (level_breaches s 97 has_disjoint_tags) 0) from_b

  no_l : array_breaches s 107 described ≡ [] → from_l ≡ Some b → Other
  no_l k e =
      let few = tests.few (λ level here a among.
      let all = and_parts (eqb a.entries (length a.content) && eqb a.leads (length (own_leads a))) (eqb a.least (least_live (versions_of s) a)) (array_passes s 107 described k level here a among) in
      eqb-true a.leads (length (own_leads a)) (and_parts (eqb a.entries (length a.content)) (eqb a.leads (length (own_leads a))) all.0).1) in
      let nothing : None ≡ Some b = ap (λ (zs : List Breach). option_or (slice_get zs 0) None) (sym (unless_none (has_few_leads s) (breach 108 0 0) few)) ∙ e in
      absurd (cc)

  -- each rule in turn, from the last one back
  in_k : from_k ≡ Some b → Other
  in_k e = elim (past 107 (array_breaches s 107 described) from_l (array_rule s 107 described) (λ n. omega (arith, n)) (λ n. omega (arith, n)) (λ n. omega (arith, n)) e) [ inl other ↦ other | inr left ↦ no_l left.0 left.1 ]

  in_j : from_j ≡ Some b → Other
  in_j e = elim (past 106 (level_breaches s 106 (is_above_frozen s)) from_k (level_rule s 106 (is_above_frozen s)) (λ n. omega (arith, n)) (λ n. omega (arith, n)) (λ n. omega (arith, n)) e) [ inl other ↦ other | inr left ↦ in_k left.1 ]

  in_i : from_i ≡ Some b → Other
  in_i e = elim (past 105 (level_breaches s 105 (has_old_horizon s)) from_j (level_rule s 105 (has_old_horizon s)) (λ n. omega (arith, n)) (λ n. omega (arith, n)) (λ n. omega (arith, n)) e) [ inl other ↦ other | inr left ↦ in_j left.1 ]

  in_h : from_h ≡ Some b → Other
  in_h e = elim (past 104 (level_breaches s 104 (has_room s)) from_i (level_rule s 104 (has_room s)) (λ n. omega (arith, n)) (λ n. omega (arith, n)) (λ n. omega (arith, n)) e) [ inl other ↦ other | inr left ↦ in_i left.1 ]

  module _ (single : level_breaches s 103 has_single_leads ≡ []) where
    in_f : from_f ≡ Some b → Other
    in_f e = elim (past 102 (array_breaches s 102 is_drawn) from_g (array_rule s 102 is_drawn) (λ n. omega (arith, n)) (λ n. omega (arith, n)) (λ n. omega (arith, n)) e) [ inl other ↦ other | inr left ↦ in_h (none (level_breaches s 103 has_single_leads) from_h single left.1) ]

    in_e : from_e ≡ Some b → Other
    in_e e = elim (past 101 (array_breaches s 101 led) from_f (array_rule s 101 led) (λ n. omega (arith, n)) (λ n. omega (arith, n)) (λ n. omega (arith, n)) e) [ inl other ↦ other | inr left ↦ in_f left.1 ]

    in_d : from_d ≡ Some b → Other
    in_d e = elim (past 100 (array_breaches s 100 dense) from_e (array_rule s 100 dense) (λ n. omega (arith, n)) (λ n. omega (arith, n)) (λ n. omega (arith, n)) e) [ inl other ↦ other | inr left ↦ in_e left.1 ]

    in_c : from_c ≡ Some b → Other
    in_c e = elim (past 99 (array_breaches s 99 (agrees (versions_of s))) from_d (array_rule s 99 (agrees (versions_of s))) (λ n. omega (arith, n)) (λ n. omega (arith, n)) (λ n. omega (arith, n)) e) [ inl other ↦ other | inr left ↦ in_d left.1 ]

    in_b : from_b ≡ Some b → Other
    in_b e = elim (past 98 (level_breaches s 98 (has_live_tagged (versions_of s))) from_c (level_rule s 98 (has_live_tagged (versions_of s))) (λ n. omega (arith, n)) (λ n. omega (arith, n)) (λ n. omega (arith, n)) e) [ inl other ↦ other | inr left ↦ in_c left.1 ]

  -- where arrays ascend leads are single
  single_from : array_breaches s 109 ordered ≡ [] → level_breaches s 103 has_single_leads ≡ []
  single_from m =
      level_passed s 103 has_single_leads (λ level here.
      ordered_single level (all_from has_ascending_entries level.arrays (λ a among. array_passes s 109 ordered m level here a among)) (tests.disjoint level here))

  pub other_rule : first_in (by_rule s) ≡ Some b → Other
  other_rule e =
      elim (past 109 (array_breaches s 109 ordered) from_a (array_rule s 109 ordered) (λ n. omega (arith, n)) (λ n. omega (arith, n)) (λ n. omega (arith, n)) e) [
        | inl other ↦ other
        | inr left ↦ in_b (single_from left.0) (none (level_breaches s 97 has_disjoint_tags) from_b (level_passed s 97 has_disjoint_tags tests.disjoint) left.1)
      ]

pub three_unnamed : (c : Image) (b : Breach) (later : List Breach) → checked c ≡ Ok (Some (b ∷ later)) → (b.rule ≡ 97 → ⊥) × (b.rule ≡ 103 → ⊥) × (b.rule ≡ 108 → ⊥)
three_unnamed c b later e =
    let at = checked_state c (b ∷ later) e in
    other_rule at.0 (tested c at.0 at.1) b (sym (first_of_rules at.0) ∙ ap (λ (found : List Breach). slice_get found 0) at.2)
