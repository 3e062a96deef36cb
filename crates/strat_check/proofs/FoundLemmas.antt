-- What was found of levels, and of one more.
use Rattle.std.proofs.Common.{◌≡◌, ◌≤◌, ◌+◌, ◌-◌, ◌^◌, ◌&&◌, ℕ, Bool, true, false, leb, not, min, inl, List, [], ◌∷◌, ◌++◌, length, filter, Option, refl, sym, ap, ◌∙◌, subst, arith, append_assoc, append-nil}
use Rattle.std.specs.List.{list_all, sum_by, flat_map, fold, range_with_len, Contains}
use Rattle.std.specs.Option.{option_or}
use Rattle.std.proofs.lemmas.Bool.{and_parts, and_from, leb-true, le-leb}
use Rattle.std.proofs.lemmas.List.Concat.{length-flat_map}
use Rattle.std.proofs.lemmas.List.Folds.{list_all-append}
use Rattle.std.proofs.lemmas.List.Sums.{fold_push, sum_by-cons, length-filter, count_by-le-length}
use Rattle.strat_base.specs.Entries.{Entry, is_tagged}
use Rattle.strat_base.specs.Tree.{IsTree}
use Rattle.strat_base.specs.declared.descriptors.LevelDesc.{LevelDesc}
use Rattle.strat_base.proofs.ListFacts.{Among, among_right}
use Rattle.def_check.proofs.CheckedLemmas.{among_contained}
use Rattle.def_check.proofs.FirstLemmas.{first_grown}
use Rattle.def_crash.specs.Image.{Image}
use Rattle.def_split.proofs.ListLemmas.{bool_same}
use Rattle.def_state.specs.Breach.{breach, breach_unless}
use Rattle.def_state.specs.Level.{TaggedArray, Level, own_leads, level_leads, has_live_tagged, agrees, is_dense, is_led, is_drawn}
use Rattle.def_state.specs.Sound.{has_child_below, shallower, has_room, has_old_horizon, is_above_frozen, is_described}
use Rattle.def_state.specs.State.{State, versions_of, journal_updates}
use Rattle.strat_check.specs.ArrayNumbers.{IsLevelSeen}
use Rattle.strat_check.specs.Children.{lowered_by_own}
use Rattle.strat_check.specs.LevelNumbers.{IsLevelToldFrom}
use Rattle.strat_check.specs.Places.{place_of, first_unless, array_list, first_array_breach, first_in_arrays, first_in_levels, after_array, KeepsLevel}
use Rattle.strat_check.specs.Sightings.{Sightings}
use Rattle.strat_check.specs.Strays.{IsCountedLevel}
use Rattle.strat_check.specs.Walked.{AreArraysLooked, leads_of_arrays, AreArraysTold, AreFirstChildren, IsNextLevel, IsFound}
use Rattle.strat_check.specs.declared.strays.Strays.{Strays}
use Rattle.strat_check.specs.declared.level_walk.ArraysTold.{ArraysTold}
use Rattle.strat_check.specs.declared.level_walk.Findings.{Findings}
use Rattle.strat_check.specs.declared.places.Broken.{Broken}
use Rattle.strat_check.specs.declared.places.LevelTold.{LevelTold}
use Rattle.strat_check.specs.declared.scan.Scan.{Scan}
use Rattle.strat_check.proofs.LevelLemmas.{tagged_told, roomy_told, shallower_done, lowest_own, leads_lowered}
use Rattle.strat_check.proofs.WalkLemmas.{IsLevelOf}

-- the level behind those that are done is one of the state

pub next_here : (s : State) (done rest : List Level) (on : Level) (scans : List Scan) → IsNextLevel s done rest on scans → Contains s.levels on
next_here s done rest on scans next = among_contained s.levels on (subst (λ (ls : List Level). Among on ls) (sym next.split) (among_right done (on ∷ rest) on (inl refl)))

-- a level that was counted is seen

pub level_seen : (s : State) (done rest : List Level) (on : Level) (scans : List Scan) (found : List Strays) (leads : Sightings) → IsNextLevel s done rest on scans → IsTree (versions_of s)
    → length leads.own ≡ length (versions_of s) → (counted : IsCountedLevel (versions_of s) on found leads) → IsLevelSeen s on counted.groups leads
level_seen s done rest on scans found leads next tree size counted =
    let here = next_here s done rest on scans next in
    record {
      tree = tree;
      may = next.may.counted on here;
      old = (let old = next.may.old on here in let known = next.may.known in omega (arith, old, known));
      led = counted.leads;
      sighted = counted.sighted;
      size = size;
    }

pub arrays_looked : (s : State) (done rest : List Level) (on : Level) (scans : List Scan) (found : List Strays) (leads : Sightings) → IsNextLevel s done rest on scans
    → (counted : IsCountedLevel (versions_of s) on found leads) → IsLevelSeen s on counted.groups leads → AreArraysLooked s on counted.groups scans found leads
arrays_looked s done rest on scans found leads next counted seen = record {
  level = seen;
  scanned = next.scanned;
  few = next.may.few on (next_here s done rest on scans next);
  strayed = counted.strays;
}

filter_few : {A : Type 0} (p : A → Bool) (xs : List A) → length (filter p xs) ≤ length xs
filter_few p xs = omega (arith, length-filter p xs, count_by-le-length p xs)

leads_le : (arrays : List TaggedArray) → leads_of_arrays arrays ≤ sum_by (λ (a : TaggedArray). length a.content) arrays
leads_le [] = omega arith
leads_le (a ∷ arrays) =
    let rest = leads_le arrays in
    let here = filter_few (λ (e : Entry). is_tagged a.tag e.version) a.content in
    let one = sum_by-cons (λ (b : TaggedArray). length (own_leads b)) a arrays in
    let two = sum_by-cons (λ (b : TaggedArray). length b.content) a arrays in
    omega (arith, rest, here, one, two)

min_small : (n : ℕ) → n ≤ 2 ^ 48 → min n (2 ^ 64 - 1) ≡ n
min_small n le = omega (arith, le)

min_added : (m n : ℕ) → min (min m (2 ^ 64 - 1) + n) (2 ^ 64 - 1) ≡ min (m + n) (2 ^ 64 - 1)
min_added m n = omega arith

leb_least : (h x m : ℕ) → leb h (min x m) ≡ (leb h x && leb h m)
leb_least h x m =
    bool_same (leb h (min x m)) (leb h x && leb h m)
    (λ le. let low = leb-true h (min x m) le in and_from (leb h x) (leb h m) (le-leb h x (omega (arith, low))) (le-leb h m (omega (arith, low))))
    (λ both.
    let parts = and_parts (leb h x) (leb h m) both in
    let one = leb-true h x parts.0 in
    let two = leb-true h m parts.1 in
    le-leb h (min x m) (omega (arith, one, two)))

and_assoc : (a b c : Bool) → (a && b && c) ≡ (a && (b && c))
and_assoc true b c = refl
and_assoc false b c = refl

and_true : (a : Bool) → a ≡ (a && true)
and_true true = refl
and_true false = refl

flat_pushed : {A B : Type 0} (g : A → List B) (xs : List A) (x : A) → flat_map g (xs ++ x ∷ []) ≡ flat_map g xs ++ g x
flat_pushed g [] x = append-nil (g x)
flat_pushed {B = B} g (y ∷ xs) x = ap (λ (zs : List B). g y ++ zs) (flat_pushed g xs x) ∙ sym (append_assoc (g y) (flat_map g xs) (g x))

sum_pushed : {A : Type 0} (g : A → ℕ) (xs : List A) (x : A) → sum_by g (xs ++ x ∷ []) ≡ sum_by g xs + g x
sum_pushed g xs x = fold_push (λ n y. n + g y) 0 xs x

module _ (s : State) (f : Image) (desc : LevelDesc) (on : Level) (done rest : List Level) (scans : List Scan) (before after : Findings) (arrays : ArraysTold) (told : LevelTold)
    (leads : Sightings) (groups : List (List Entry)) (mem : ℕ) (first : List ℕ) (next : IsNextLevel s done rest on scans) (its : IsLevelOf f desc on) (seen : IsLevelSeen s on groups leads)
    (counted : AreArraysTold s on on.arrays arrays) (level_told : IsLevelToldFrom desc mem leads arrays.leads before told) (keeps : KeepsLevel before.places after.places desc.number told arrays.places)
    (horizon_is : after.horizon ≡ min before.horizon desc.horizon) (lowest_is : after.lowest ≡ fold (lowered_by_own leads.own first) before.lowest (range_with_len 0 (length (versions_of s))))
    (leads_are : after.leads ≡ min (before.leads + arrays.leads) (2 ^ 64 - 1)) (children : AreFirstChildren s first) (mem_is : s.mem ≡ mem) (was : IsFound s done before) where
  leads_few : leads_of_arrays on.arrays ≤ 2 ^ 48
  leads_few = let few = next.may.few on (next_here s done rest on scans next) in let le = leads_le on.arrays in omega (arith, few, le)

  level_sum : arrays.leads ≡ length (level_leads on)
  level_sum = counted.leads ∙ min_small (leads_of_arrays on.arrays) leads_few ∙ sym (length-flat_map own_leads on.arrays)

  done_is : shallower s on ≡ done
  done_is = shallower_done s done rest on next.may.formed.numbered next.split

  known : on.horizon ≤ length (versions_of s)
  known = seen.old

  level_grown : (rule : ℕ) (test : Level → Bool) (old new : Option Broken) (passes : Bool) → place_of old ≡ first_in_levels rule test done → passes ≡ test on
      → place_of new ≡ after_array old passes rule desc.number 0 → place_of new ≡ first_in_levels rule test (done ++ on ∷ [])
  level_grown rule test old new passes here same is =
      is ∙ (λ i. option_or (here i) (first_unless (same i) (breach rule (sym its.number i) 0)))
      ∙ sym (first_grown (λ (level : Level). breach_unless (test level) (breach rule level.number 0)) done on)

  arrays_grown : (rule : ℕ) (test : Level → TaggedArray → Bool) (old later new : Option Broken) → place_of old ≡ first_in_arrays rule test done
      → place_of later ≡ first_array_breach rule on.number (test on) on.arrays → place_of new ≡ option_or (place_of old) (place_of later) → place_of new ≡ first_in_arrays rule test (done ++ on ∷ [])
  arrays_grown rule test old later new here there is =
      is ∙ (λ i. option_or (here i) (there i)) ∙ sym (first_grown (λ (level : Level). array_list rule level.number (test level) level.arrays) done on)

  old_told : told.is_old ≡ has_old_horizon s on
  old_told =
      level_told.old ∙ ap (λ (h : ℕ). leb h before.horizon) (sym its.horizon) ∙ was.horizon on.horizon
      ∙ (λ i. (le-leb on.horizon (length (versions_of s)) known ∙ sym (le-leb on.horizon (length s.parents) (next.may.old on (next_here s done rest on scans next)))) i && list_all (λ (other : Level). leb on.horizon other.horizon) (sym done_is i))

  settled_told : told.is_settled ≡ is_above_frozen s on
  settled_told =
      level_told.settled ∙ ap (λ (h : ℕ). leb h before.lowest) (sym its.horizon) ∙ was.lowest on.horizon known
      ∙ ap (λ (ls : List Level). list_all (λ (e : Entry). not (has_child_below s on.horizon e.version)) (journal_updates s ++ flat_map level_leads ls)) (sym done_is)

  lowest_more : (h : ℕ) → h ≤ length (versions_of s) → leb h after.lowest ≡ list_all (λ (e : Entry). not (has_child_below s h e.version)) (journal_updates s ++ flat_map level_leads (done ++ on ∷ []))
  lowest_more h le =
      ap (leb h) lowest_is ∙ lowest_own h leads.own first before.lowest (range_with_len 0 (length (versions_of s)))
      ∙ (λ i. was.lowest h le i && leads_lowered s first children seen.tree h le on groups leads seen i)
      ∙ sym (list_all-append barren (journal_updates s ++ flat_map level_leads done) (level_leads on))
      ∙ ap (list_all barren) (append_assoc (journal_updates s) (flat_map level_leads done) (level_leads on) ∙ ap (λ (es : List Entry). journal_updates s ++ es) (sym (flat_pushed level_leads done on)))
    where
      barren : Entry → Bool
      barren e = not (has_child_below s h e.version)

  horizon_more : (h : ℕ) → leb h after.horizon ≡ (leb h (length (versions_of s)) && list_all (λ (other : Level). leb h other.horizon) (done ++ on ∷ []))
  horizon_more h =
      ap (leb h) (horizon_is ∙ ap (λ (n : ℕ). min before.horizon n) (sym its.horizon)) ∙ leb_least h before.horizon on.horizon
      ∙ ap (λ (b : Bool). b && leb h on.horizon) (was.horizon h)
      ∙ and_assoc (leb h (length (versions_of s))) (list_all low done) (leb h on.horizon)
      ∙ ap (λ (b : Bool). leb h (length (versions_of s)) && b) (ap (λ (b : Bool). list_all low done && b) (and_true (leb h on.horizon)) ∙ sym (list_all-append low done (on ∷ [])))
    where
      low : Level → Bool
      low other = leb h other.horizon

  pub found_more : IsFound s (done ++ on ∷ []) after
  found_more = record {
    firsts = record {
      tagged = level_grown 98 (has_live_tagged (versions_of s)) before.places.tagged after.places.tagged told.is_tagged was.firsts.tagged (level_told.tagged ∙ tagged_told s f desc on groups leads its seen) keeps.tagged;
      arrays = record {
        agreeing = arrays_grown 99 (agrees (versions_of s)) before.places.arrays.agreeing arrays.places.agreeing after.places.arrays.agreeing was.firsts.arrays.agreeing counted.places.agreeing keeps.arrays_are.agreeing;
        dense = arrays_grown 100 (λ level. is_dense (versions_of s)) before.places.arrays.dense arrays.places.dense after.places.arrays.dense was.firsts.arrays.dense counted.places.dense keeps.arrays_are.dense;
        led = arrays_grown 101 (λ level. is_led) before.places.arrays.led arrays.places.led after.places.arrays.led was.firsts.arrays.led counted.places.led keeps.arrays_are.led;
        drawn = arrays_grown 102 is_drawn before.places.arrays.drawn arrays.places.drawn after.places.arrays.drawn was.firsts.arrays.drawn counted.places.drawn keeps.arrays_are.drawn;
        described = arrays_grown 107 (λ level. is_described s) before.places.arrays.described arrays.places.described after.places.arrays.described was.firsts.arrays.described counted.places.described keeps.arrays_are.described;
      };
      roomy = level_grown 104 (has_room s) before.places.roomy after.places.roomy told.has_room was.firsts.roomy (level_told.roomy ∙ roomy_told s f desc on groups leads its seen arrays.leads mem level_sum mem_is) keeps.roomy;
      old = level_grown 105 (has_old_horizon s) before.places.old after.places.old told.is_old was.firsts.old old_told keeps.old;
      settled = level_grown 106 (is_above_frozen s) before.places.settled after.places.settled told.is_settled was.firsts.settled settled_told keeps.settled;
    };
    lowest = lowest_more;
    horizon = horizon_more;
    leads =
        leads_are ∙ (λ i. min (was.leads i + level_sum i) (2 ^ 64 - 1)) ∙ min_added (sum_by (λ (level : Level). length (level_leads level)) done) (length (level_leads on))
        ∙ ap (λ (n : ℕ). min n (2 ^ 64 - 1)) (sym (sum_pushed (λ (level : Level). length (level_leads level)) done on));
  }
