-- An array that is gone through entry by entry.
use Rattle.strat_check.proofs.ArrayCountLemmas.{bad_alone}
use Rattle.strat_merge.specs.Reading.{ReadsRuns}
use Rattle.def_crash.specs.Moments.{DiskView, Exposes, OnlyReads}
use Rattle.std.proofs.lemmas.List.Elements.{Contains-append_right}
use Rattle.std.proofs.Common.{◌≡◌, ◌<◌, ◌≤◌, ◌+◌, ◌^◌, ◌&&◌, ℕ, Bool, true, false, cond, ltb, inl, inr, List, [], ◌∷◌, ◌++◌, length, map, filter, drop, Option, Some, None, Result, Ok, Err, IfOk, refl, sym, ap, ◌∙◌, subst, arith, append_assoc, length-append, true≢false, append-nil, IsErrOf}
use Rattle.std.specs.List.{list_all, slice_get, Contains}
use Rattle.std.specs.Ordering.{is_lt, nat_cmp, ordering_then, ordering_reverse}
use Rattle.std.specs.Cmp.{nat_cmp_is}
use Rattle.std.specs.declared.cmp.Ordering.{Ordering}
use Rattle.std.specs.declared.cmp.Ordering.TheVariants.{Less, Equal, Greater}
use Rattle.std.proofs.lemmas.Bool.{and_parts, and_from, ltb-true, lt-ltb, cases_lt, cases_eq}
use Rattle.std.proofs.lemmas.Cmp.{nat_list_cmp_total}
use Rattle.std.proofs.lemmas.List.Folds.{list_all-append}
use Rattle.std.proofs.lemmas.List.Sums.{sum_by-cons, sum_by-append}
use Rattle.strat_base.specs.Entries.{Entry, is_of, is_ascending}
use Rattle.strat_base.specs.Order.{descends, entry_cmp, key_cmp}
use Rattle.strat_base.specs.Tree.{Parents, IsTree}
use Rattle.def_crash.specs.Faults.{ReadsAtMost, HasCause}
use Rattle.def_split.specs.Groups.{group_versions}
use Rattle.strat_merge.specs.Runs.{ReadsFront, ReadsLeft}
use Rattle.strat_base.proofs.EntryLemmas.{same_bytes}
use Rattle.strat_base.proofs.ListFacts.{all_from, all_at}
use Rattle.def_crash.specs.Image.{Image}
use Rattle.strat_check.specs.KeyWalks.{gathered, versions_behind, IsWalking}
use Rattle.strat_check.specs.MarkedRuns.{unmarked_seen}
use Rattle.strat_check.specs.ArrayCounts.{IsSightOf}
use Rattle.strat_check.specs.Sightings.{Sightings, versions_added, IsSighting, IsSighted}
use Rattle.strat_check.proofs.GroupingLemmas.{key_groups, all_behind}
use Rattle.strat_check.proofs.SightOfLemmas.{sight_of_keys}
use Rattle.strat_check.specs.declared.key_walk.KeyVersions.{KeyVersions}
use Rattle.strat_check.specs.declared.marked_run.MarkedRun.{MarkedRun}

-- one more entry

pub behind_same : (key versions : List ℕ) (e : Entry) (left : List Entry) → is_of key e ≡ true
    → versions_behind key versions (e ∷ left) ≡ versions_behind key (versions ++ e.version ∷ []) left
unfolding versions_behind
behind_same key versions e left is =
    ap (λ (b : Bool). cond b (versions_behind key (versions ++ e.version ∷ []) left) (gathered versions ++ versions_behind e.key (e.version ∷ []) left)) is

pub behind_other : (key versions : List ℕ) (e : Entry) (left : List Entry) → is_of key e ≡ false
    → versions_behind key versions (e ∷ left) ≡ gathered versions ++ versions_behind e.key [] (e ∷ left)
unfolding versions_behind
behind_other key versions e left other =
    ap (λ (b : Bool). cond b (versions_behind key (versions ++ e.version ∷ []) left) (gathered versions ++ versions_behind e.key (e.version ∷ []) left)) other
    ∙ ap (λ (vs : List (List ℕ)). gathered versions ++ vs) (sym (behind_same e.key [] e left (same_bytes e.key e.key refl)))

-- how many versions there are

added_gathered : (versions : List ℕ) → versions_added (gathered versions) ≡ length versions
added_gathered [] = refl
added_gathered (v ∷ versions) = let one = sum_by-cons (λ (vs : List ℕ). length vs) (v ∷ versions) [] in omega (arith, one)

added_behind : (key versions : List ℕ) (left : List Entry) → versions_added (versions_behind key versions left) ≡ length versions + length left
unfolding versions_behind
added_behind key versions [] = let all = added_gathered versions in omega (arith, all)
added_behind key versions (e ∷ left) = go (added_behind key (versions ++ e.version ∷ []) left) (added_behind e.key (e.version ∷ []) left) (is_of key e)
  where
    go : versions_added (versions_behind key (versions ++ e.version ∷ []) left) ≡ length (versions ++ e.version ∷ []) + length left
        → versions_added (versions_behind e.key (e.version ∷ []) left) ≡ length (e.version ∷ []) + length left → (b : Bool) → versions_added (cond b (versions_behind key (versions ++ e.version ∷ []) left) (gathered versions ++ versions_behind e.key (e.version ∷ []) left)) ≡ length versions + length (e ∷ left)
    go rest other true =
        let one = length-append versions (e.version ∷ []) in
        omega (arith, rest, one)
    go same rest false =
        let both = sum_by-append (λ (vs : List ℕ). length vs) (gathered versions) (versions_behind e.key (e.version ∷ []) left) in
        let first = added_gathered versions in
        omega (arith, both, first, rest)

-- what was added so far are no more than all
pub few_done : (done all : List (List ℕ)) (key versions : List ℕ) (left : List Entry) → done ++ versions_behind key versions left ≡ all → versions_added all ≤ 2 ^ 48
    → versions_added (done ++ gathered versions) ≤ 2 ^ 48
few_done done all key versions left whole few =
    let total = ap (λ (gs : List (List ℕ)). versions_added gs) whole in
    let both = sum_by-append (λ (vs : List ℕ). length vs) done (versions_behind key versions left) in
    let part = sum_by-append (λ (vs : List ℕ). length vs) done (gathered versions) in
    let rest = added_behind key versions left in
    let first = added_gathered versions in
    omega (arith, total, both, part, rest, first, few)

-- a key's versions

pub descends_more : (versions : List ℕ) (v : ℕ) → descends versions ≡ true → list_all (λ u. ltb v u) versions ≡ true → descends (versions ++ v ∷ []) ≡ true
descends_more [] v down above = refl
descends_more (u ∷ versions) v down above =
    let parts = and_parts (list_all (λ w. ltb w u) versions) (descends versions) down in
    let first = and_parts (ltb v u) (list_all (λ w. ltb v w) versions) above in
    and_from (list_all (λ w. ltb w u) (versions ++ v ∷ [])) (descends (versions ++ v ∷ []))
    (list_all-append (λ w. ltb w u) versions (v ∷ []) ∙ and_from (list_all (λ w. ltb w u) versions) (ltb v u && true) parts.0 (and_from (ltb v u) true first.0 refl))
    (descends_more versions v parts.1 first.1)

pub all_more : (p : ℕ → Bool) (versions : List ℕ) (v : ℕ) → list_all p versions ≡ true → p v ≡ true → list_all p (versions ++ v ∷ []) ≡ true
all_more p versions v all is = list_all-append p versions (v ∷ []) ∙ and_from (list_all p versions) (p v && true) all (and_from (p v) true is refl)

key_itself : (key : List ℕ) → key_cmp key key ≡ Equal
key_itself key = go (key_cmp key key) (nat_list_cmp_total.antisymm key key)
  where
    go : (o : Ordering) → o ≡ ordering_reverse o → o ≡ Equal
    go Less is = absurd (cc)
    go Equal is = refl
    go Greater is = absurd (cc)

lower : (a b : ℕ) → is_lt (nat_cmp a b) ≡ true → a < b
lower a b less =
    elim (cases_lt a b) [
      | inl under ↦ under
      | inr past ↦
          elim (cases_eq a b) [
            | inl same ↦ absurd (true≢false (sym less ∙ ap is_lt (sym (nat_cmp_is a b Equal same))))
            | inr apart ↦
                let above : b < a = elim (cases_lt b a) [ inl high ↦ high | inr le ↦ absurd (apart (omega (arith, le, past))) ] in
                absurd (true≢false (sym less ∙ ap is_lt (sym (nat_cmp_is a b Greater above))))
          ]
    ]

-- an entry behind another one of the same key is of a version below those before
pub follows : (e d : Entry) (versions : List ℕ) → list_all (λ u. ltb e.version u) versions ≡ true → is_lt (entry_cmp e.key e.version d.key d.version) ≡ true → d.key ≡ e.key
    → list_all (λ u. ltb d.version u) (versions ++ e.version ∷ []) ≡ true
follows e d versions above less same =
    let under : d.version < e.version = below in
    all_more (λ u. ltb d.version u) versions e.version
    (all_from (λ u. ltb d.version u) versions (λ u among. let high = ltb-true e.version u (all_at (λ w. ltb e.version w) u versions above among) in lt-ltb d.version u (omega (arith, under, high))))
    (lt-ltb d.version e.version under)
  where
    below : d.version < e.version
    below = lower d.version e.version (sym (ap (λ (o : Ordering). is_lt (ordering_then o (nat_cmp d.version e.version))) (ap (key_cmp e.key) same ∙ key_itself e.key)) ∙ less)

-- The walk.

module _ (parents : Parents) (all : List (List ℕ)) (s now : Sightings) where
  -- an entry of the key at hand is added to it
  pub walked_same : (e : Entry) (left : List Entry) (old new : KeyVersions) → is_of old.key.items e ≡ true → new.key ≡ old.key → new.versions.items ≡ old.versions.items ++ e.version ∷ []
      → IsWalking parents all (e ∷ left) old s → IsWalking parents all left new s
  walked_same e left old new is key more walking =
      record {
        done = walking.done;
        whole =
            ap (λ (vs : List (List ℕ)). walking.done ++ vs)
            ((λ i. versions_behind (key i).items (more i) left) ∙ sym (behind_same old.key.items old.versions.items e left is))
            ∙ walking.whole;
        sighted = walking.sighted;
      }

  -- before one of another key the versions at hand are added to the sights
  pub walked_other : (e : Entry) (left : List Entry) (old new : KeyVersions) → is_of old.key.items e ≡ false → new.key.items ≡ e.key → new.versions.items ≡ [] → versions_added all ≤ 2 ^ 48
      → ((groups : List (List ℕ)) → IsSighting parents groups s → versions_added (groups ++ gathered old.versions.items) ≤ 2 ^ 48 → IsSighting parents (groups ++ gathered old.versions.items) now)
      → IsWalking parents all (e ∷ left) old s → IsWalking parents all (e ∷ left) new now
  walked_other e left old new other key none few adds walking =
      record {
        done = walking.done ++ gathered old.versions.items;
        whole =
            append_assoc walking.done (gathered old.versions.items) (versions_behind new.key.items new.versions.items (e ∷ left))
            ∙ ap (λ (vs : List (List ℕ)). walking.done ++ vs)
            ((λ i. gathered old.versions.items ++ versions_behind (key i) (none i) (e ∷ left)) ∙ sym (behind_other old.key.items old.versions.items e left other))
            ∙ walking.whole;
        sighted = adds walking.done walking.sighted (few_done walking.done all old.key.items old.versions.items (e ∷ left) walking.whole few);
      }

  -- where no entry is left, the versions at hand are the last
  pub walked_out : (left : List Entry) (old : KeyVersions) → left ≡ [] → versions_added all ≤ 2 ^ 48
      → ((groups : List (List ℕ)) → IsSighting parents groups s → versions_added (groups ++ gathered old.versions.items) ≤ 2 ^ 48 → IsSighting parents (groups ++ gathered old.versions.items) now)
      → IsWalking parents all left old s → IsSighting parents all now
  unfolding versions_behind
  walked_out left old none few adds walking =
      let here = subst (λ (es : List Entry). IsWalking parents all es old s) none walking in
      subst (λ (gs : List (List ℕ)). IsSighting parents gs now) here.whole (adds here.done here.sighted (few_done here.done all old.key.items old.versions.items [] here.whole few))

-- what a run has left begins with its first entry
first_left : (es : List Entry) (o : Option Entry) (e : Entry) → o ≡ slice_get es 0 → o ≡ Some e → es ≡ e ∷ drop 1 es
first_left [] o e begins some = absurd (cc)
first_left (x ∷ es) o e begins some = let same : x ≡ e = cc in ap (λ (y : Entry). y ∷ es) same

pub left_first : (f : Image) (run : MarkedRun) (e : Entry) → Some e ≡ (unmarked_seen run).first → (unmarked_seen run).left f ≡ e ∷ drop 1 ((unmarked_seen run).left f)
left_first f run e some = first_left ((unmarked_seen run).left f) (unmarked_seen run).first e (run.law.begins f) (sym some)

pub left_none : (f : Image) (run : MarkedRun) → None ≡ (unmarked_seen run).first → (unmarked_seen run).left f ≡ []
left_none f run none = go ((unmarked_seen run).left f) (sym (none ∙ run.law.begins f))
  where
    go : (es : List Entry) → slice_get es 0 ≡ None → es ≡ []
    go [] is = refl
    go (x ∷ es) is = absurd (cc)

-- An array by itself.

-- an outcome, and what follows from it
pub ok_then : {T E : Type 0} {P Q : T → Type 0} (r : Result T E) → IfOk r P → ((x : T) → P x → Q x) → IfOk r Q
ok_then (Ok x) is then = then x is
ok_then (Err e) is then = tt

-- some blocks were read before a run began, and no more than it had left since
pub reads_alone : (blocks : List ℕ) (run now : MarkedRun) (p q r : ℕ) → ReadsFront blocks (unmarked_seen run).blocks p q → ReadsLeft (map unmarked_seen (run ∷ [])) (map unmarked_seen (now ∷ [])) q r → ReadsAtMost (length blocks) p r
reads_alone blocks run now p q r front left =
    let size = ap (λ (bs : List ℕ). length bs) front.split in
    let both = length-append front.read (unmarked_seen run).blocks in
    let one = length-append (unmarked_seen run).blocks [] in
    let first = front.most in
    let begun = front.later in
    let most = left.most in
    let later = left.later in
    record { later = omega (arith, begun, later); bound = omega (arith, size, both, one, first, most) }

walk_begins : (parents : Parents) (below left : List Entry) (g : KeyVersions) (s : Sightings) → g.versions.items ≡ [] → left ≡ below → IsSighting parents [] s → IsWalking parents (group_versions (key_groups below)) left g s
walk_begins parents below left g s none is begun =
    record { done = []; whole = (λ i. versions_behind g.key.items (none i) (is i)) ∙ all_behind g.key.items below; sighted = begun }

few_grouped : (below : List Entry) → length below ≤ 2 ^ 48 → versions_added (group_versions (key_groups below)) ≤ 2 ^ 48
few_grouped below few =
    let all = ap (λ (gs : List (List ℕ)). versions_added gs) (all_behind [] below) in
    let count = added_behind [] [] below in
    omega (arith, all, count, few)

-- what a walk over an array's entries of versions below their number sums up is what is counted of the array
pub alone_sighted : (parents : Parents) → IsTree parents → (n : ℕ) → n ≡ length parents → (content : List Entry) → is_ascending content ≡ true → (g : KeyVersions) (before after : Sightings) (left : List Entry)
    → g.versions.items ≡ [] → left ≡ filter (λ e. ltb e.version n) content → length (filter (λ e. ltb e.version n) content) ≤ 2 ^ 48 → IsSighting parents [] before → length after.own ≡ length parents
    → ((all : List (List ℕ)) → versions_added all ≤ 2 ^ 48 → IsWalking parents all left g before → IsSighted parents all after) → IsSightOf parents content after
alone_sighted parents tree n same content up g before after left none is few begun len walks =
    let below : List Entry = filter (λ (e : Entry). ltb e.version n) content in
    let sighted : IsSighted parents (group_versions (key_groups below)) after = walks (group_versions (key_groups below)) (few_grouped below few) (walk_begins parents below left g before none is begun) in
    sight_of_keys parents tree content up after len (subst (λ (k : ℕ). IsSighted parents (group_versions (key_groups (filter (λ (e : Entry). ltb e.version k) content))) after) same sighted)

-- a run that is read alone, as runs are that are read
pub step_alone : {T E : Type 0} (old new : MarkedRun) (device : E) (damaged : ℕ → E) (disk after : DiskView) (faults failed before now : ℕ) (result : Result T E)
    → OnlyReads disk after → HasCause device faults failed result
    → ((b : ℕ) → IsErrOf result (damaged b) → Contains (unmarked_seen old).blocks b)
    → ((b : ℕ) → IsErrOf result (damaged b) → (c : Image) → Exposes disk c → (unmarked_seen old).misfit c ≡ Some b)
    → ((c : Image) (b : ℕ) → Exposes disk c → (unmarked_seen new).misfit c ≡ Some b → (unmarked_seen old).misfit c ≡ Some b)
    → ReadsFront (unmarked_seen old).blocks (unmarked_seen new).blocks before now
    → ReadsRuns unmarked_seen device damaged disk after faults failed before now (old ∷ []) (new ∷ []) result
step_alone old new device damaged disk after faults failed before now result same cause named blamed fewer front =
    record {
      same = same;
      cause = cause;
      named = λ b is. subst (λ (bs : List ℕ). Contains bs b) (sym (append-nil (unmarked_seen old).blocks)) (named b is);
      blamed = λ b is c exposes. record { at = 0; run = unmarked_seen old; there = refl; says = blamed b is c exposes };
      fewer = λ c b exposes bad. record { at = 0; run = unmarked_seen old; there = refl; says = fewer c b exposes (bad_alone (unmarked_seen new) c b bad) };
      left = record {
        fewer = λ b here.
            subst (λ (bs : List ℕ). Contains bs b) (sym (append-nil (unmarked_seen old).blocks))
            (subst (λ (bs : List ℕ). Contains bs b) (sym front.split)
            (Contains-append_right front.read (unmarked_seen new).blocks b (subst (λ (bs : List ℕ). Contains bs b) (append-nil (unmarked_seen new).blocks) here)));
        later = front.later;
        most =
            let size = ap (λ (bs : List ℕ). length bs) front.split in
            let both = length-append front.read (unmarked_seen new).blocks in
            let one = length-append (unmarked_seen old).blocks [] in
            let other = length-append (unmarked_seen new).blocks [] in
            let most = front.most in
            omega (arith, size, both, one, other, most);
      };
    }
