-- One of some runs passes over an entry.
use Rattle.std.proofs.Common.{◌≡◌, ◌≢◌, ◌≤◌, ◌<◌, ℕ, zero, suc, ◌+◌, ◌/◌, inl, inr, List, [], ◌∷◌, length, map, set, get_or, Option, Some, refl, sym, ap, ◌∙◌, subst, arith, length-append, length-set}
use Rattle.std.specs.List.{Contains, flat_map, slice_get}
use Rattle.std.specs.Option.{option_map, option_and_then}
use Rattle.std.proofs.lemmas.List.{map-set}
use Rattle.std.proofs.lemmas.List.Elements.{Contains-append_left, Contains-append_right, Contains-append_cases}
use Rattle.std.proofs.lemmas.Option.{slice_get-map}
use Rattle.def_crash.specs.Image.{Image}
use Rattle.def_crash.specs.Moments.{DiskView, Exposes, OnlyReads}
use Rattle.def_crash.specs.Faults.{HasCause}
use Rattle.strat_base.specs.declared.failures.Trouble.{Trouble}
use Rattle.strat_base.specs.declared.failures.Trouble.TheVariants.{Device, Damaged}
use Rattle.strat_merge.specs.Reading.{ReadsRuns}
use Rattle.std.specs.Prelude.{Result, Ok, Err, IsErrOf, OnOk}
use Rattle.strat_merge.specs.Runs.{RunView, head_at, Advances, ReadsFront, ReadsLeft, blocks_left, IsBadFor}
use Rattle.strat_merge.specs.Bracket.{IsTournament, PlayedBeside}
use Rattle.strat_merge.specs.Gathered.{PassesOne}
use Rattle.strat_merge.proofs.BracketLemmas.{beside_leaf, equal_or_not}

-- elements by their places

pub get_some : {X : Type 0} (xs : List X) (i : ℕ) (x : X) → i < length xs → x ≡ get_or xs i x → slice_get xs i ≡ Some x
get_some [] i x within is = absurd (omega arith)
get_some (y ∷ xs) zero x within is = ap (λ z. Some z) (sym is)
get_some (y ∷ xs) (suc i) x within is = get_some xs i x (omega arith) is

pub get_set_same : {X : Type 0} (xs : List X) (i : ℕ) (x y : X) → slice_get xs i ≡ Some x → slice_get (set xs i y) i ≡ Some y
get_set_same [] i x y there = cc
get_set_same (z ∷ xs) zero x y there = refl
get_set_same (z ∷ xs) (suc i) x y there = get_set_same xs i x y there

pub get_set_other : {X : Type 0} (xs : List X) (i j : ℕ) (y : X) → j ≢ i → slice_get (set xs i y) j ≡ slice_get xs j
get_set_other [] i j y apart = refl
get_set_other (z ∷ xs) zero zero y apart = absurd (apart refl)
get_set_other (z ∷ xs) zero (suc j) y apart = refl
get_set_other (z ∷ xs) (suc i) zero y apart = refl
get_set_other (z ∷ xs) (suc i) (suc j) y apart = get_set_other xs i j y (λ e. apart (ap (λ n. suc n) e))

-- lists behind one another, of which one is replaced
module _ {X : Type 0} (f : X → List ℕ) where
  pub contains_at : (xs : List X) (i : ℕ) (x : X) (b : ℕ) → slice_get xs i ≡ Some x → Contains (f x) b → Contains (flat_map f xs) b
  contains_at [] i x b there here = cc
  contains_at (y ∷ xs) zero x b there here =
      let same : y ≡ x = cc in
      Contains-append_left (f y) (flat_map f xs) b (subst (λ (z : X). Contains (f z) b) (sym same) here)
  contains_at (y ∷ xs) (suc i) x b there here = Contains-append_right (f y) (flat_map f xs) b (contains_at xs i x b there here)

  pub contains_set : (xs : List X) (i : ℕ) (x y : X) → slice_get xs i ≡ Some x → ((b : ℕ) → Contains (f y) b → Contains (f x) b) → (b : ℕ) → Contains (flat_map f (set xs i y)) b → Contains (flat_map f xs) b
  contains_set [] i x y there fewer b here = here
  contains_set (z ∷ xs) zero x y there fewer b here =
      let same : z ≡ x = cc in
      elim (Contains-append_cases (f y) (flat_map f xs) b here) [
        | inl front ↦ Contains-append_left (f z) (flat_map f xs) b (subst (λ (w : X). Contains (f w) b) (sym same) (fewer b front))
        | inr back ↦ Contains-append_right (f z) (flat_map f xs) b back
      ]
  contains_set (z ∷ xs) (suc i) x y there fewer b here =
      elim (Contains-append_cases (f z) (flat_map f (set xs i y)) b here) [
        | inl front ↦ Contains-append_left (f z) (flat_map f xs) b front
        | inr back ↦ Contains-append_right (f z) (flat_map f xs) b (contains_set xs i x y there fewer b back)
      ]

pub length_flat_set : {X Y : Type 0} (f : X → List Y) (xs : List X) (i : ℕ) (x y : X) → slice_get xs i ≡ Some x → length (flat_map f (set xs i y)) + length (f x) ≡ length (flat_map f xs) + length (f y)
length_flat_set f [] i x y there = cc
length_flat_set f (z ∷ xs) zero x y there =
    let same : length (f z) ≡ length (f x) = ap (λ w. length (f w)) (let e : z ≡ x = cc in e) in
    omega (arith, length-append (f y) (flat_map f xs), length-append (f z) (flat_map f xs))
length_flat_set f (z ∷ xs) (suc i) x y there =
    omega (arith, length_flat_set f xs i x y there, length-append (f z) (flat_map f (set xs i y)), length-append (f z) (flat_map f xs))

pub bad_one : (runs : List RunView) (r : ℕ) (old new : RunView) (c : Image) → slice_get runs r ≡ Some old → ((b : ℕ) → new.misfit c ≡ Some b → old.misfit c ≡ Some b) → (b : ℕ) → IsBadFor (set runs r new) c b → IsBadFor runs c b
bad_one runs r old new c there fewer b is =
    elim (equal_or_not is.at r) [
      | inl same ↦
          let at : slice_get (set runs r new) r ≡ Some is.run = subst (λ (i : ℕ). slice_get (set runs r new) i ≡ Some is.run) same is.there in
          let is_new : Some new ≡ Some is.run = sym (get_set_same runs r old new there) ∙ at in
          let e : is.run ≡ new = cc in
          record { at = r; run = old; there = there; says = fewer b (subst (λ (run : RunView). run.misfit c ≡ Some b) e is.says) }
      | inr apart ↦ record { at = is.at; run = is.run; there = sym (get_set_other runs r is.at new apart) ∙ is.there; says = is.says }
    ]

-- the run at a place as it is seen
module _ {R : Type 0} (view : R → RunView) (runs : List R) (r : ℕ) (old new : R) (there : slice_get runs r ≡ Some old) where
  pub view_there : slice_get (map view runs) r ≡ Some (view old)
  view_there = slice_get-map view runs r ∙ ap (λ (o : Option R). option_map view o) there

  pub head_there : head_at (map view runs) r ≡ (view old).first
  head_there = ap (λ (o : Option RunView). option_and_then (λ run. run.first) o) view_there

  pub reads_one : (before now : ℕ) → ReadsFront (view old).blocks (view new).blocks before now → ReadsLeft (map view runs) (map view (set runs r new)) before now
  reads_one before now reads =
      let sets : map view (set runs r new) ≡ set (map view runs) r (view new) = map-set view runs r new in
      let size = length_flat_set (λ (run : RunView). run.blocks) (map view runs) r (view old) (view new) view_there in
      let parts : length (view old).blocks ≡ length reads.read + length (view new).blocks = ap (λ (bs : List ℕ). length bs) reads.split ∙ length-append reads.read (view new).blocks in
      let most : now ≤ before + length reads.read = reads.most in
      let done : ReadsLeft (map view runs) (set (map view runs) r (view new)) before now = record {
        fewer = contains_set (λ (run : RunView). run.blocks) (map view runs) r (view old) (view new) view_there (λ b here. subst (λ (bs : List ℕ). Contains bs b) (sym reads.split) (Contains-append_right reads.read (view new).blocks b here));
        later = reads.later;
        most = omega arith;
      } in
      subst (λ (vs : List RunView). ReadsLeft (map view runs) vs before now) (sym sets) done

  pub names_one : (b : ℕ) → Contains (view old).blocks b → Contains (blocks_left (map view runs)) b
  names_one b here = contains_at (λ (run : RunView). run.blocks) (map view runs) r (view old) b view_there here

  pub passes_one : (disk : DiskView) → Advances disk (view old) (view new) → PassesOne disk (map view runs) (map view (set runs r new)) r
  passes_one disk step = record {
    before = view old;
    after = view new;
    there = view_there;
    others = map-set view runs r new;
    step = step;
  }

  pub advance_one : {T E : Type 0} (device : E) (damaged : ℕ → E) (disk after : DiskView) (faults failed before now : ℕ) (result : Result T E)
      → OnlyReads disk after → HasCause device faults failed result
      → ((b : ℕ) → IsErrOf result (damaged b) → Contains (view old).blocks b)
      → ((b : ℕ) → IsErrOf result (damaged b) → (c : Image) → Exposes disk c → (view old).misfit c ≡ Some b)
      → ((c : Image) (b : ℕ) → Exposes disk c → (view new).misfit c ≡ Some b → (view old).misfit c ≡ Some b)
      → ReadsFront (view old).blocks (view new).blocks before now
      → ReadsRuns view device damaged disk after faults failed before now runs (set runs r new) result
  advance_one device damaged disk after faults failed before now result same cause named blamed fewer reads = record {
    same = same;
    cause = cause;
    named = λ b is. names_one b (named b is);
    blamed = λ b is c exposes. record { at = r; run = view old; there = view_there; says = blamed b is c exposes };
    fewer = λ c b exposes is. bad_one (map view runs) r (view old) (view new) c view_there (λ n. fewer c n exposes) b (subst (λ (vs : List RunView). IsBadFor vs c b) (map-set view runs r new) is);
    left = reads_one before now reads;
  }

-- only the nodes above the run's leaf are to be played again
pub replay_one : (disk : DiskView) (old new : List RunView) (r : ℕ) → PassesOne disk old new r → (winners : List ℕ) → IsTournament old winners → PlayedBeside new winners ((length old + r) / 2)
replay_one disk old new r passes winners won =
    let others : List RunView = set old r passes.after in
    let beside : PlayedBeside (set old r passes.after) winners ((length old + r) / 2) = beside_leaf old winners won (set old r passes.after) r (length-set old r passes.after)
    (λ i apart. ap (λ (o : Option RunView). option_and_then (λ run. run.first) o) (get_set_other old r i passes.after apart)) in
    subst (λ (vs : List RunView). PlayedBeside vs winners ((length old + r) / 2)) (sym passes.others) beside

not_device : (b : ℕ) (r : Result (Unit {0}) Trouble) → r ≡ Err (Damaged b) → r ≡ Err Device → ⊥
not_device b r one two = cc

pub on_ok_map : {T E A B : Type 0} (r : Result T E) → OnOk r A → (A → B) → OnOk r B
on_ok_map (Ok x) a f = f a
on_ok_map (Err e) a f = tt

-- the same of the runs of a merger
pub replay_after : (disk : DiskView) (old new others : List RunView) (r n : ℕ) (winners held : List ℕ) → PassesOne disk old new r → others ≡ new → n ≡ length others → winners ≡ held
    → IsTournament old held → PlayedBeside others winners ((n + r) / 2)
replay_after disk old new others r n winners held passes same len is won =
    let P : List RunView → List ℕ → ℕ → Type 0 = λ vs ws m. PlayedBeside vs ws ((m + r) / 2) in
    let size : length others ≡ length old = ap (λ (vs : List RunView). length vs) (same ∙ passes.others) ∙ length-set old r passes.after in
    let count : n ≡ length old = len ∙ size in
    subst (λ (vs : List RunView). P vs winners n) (sym same)
    (subst (λ (m : ℕ). P new winners m) (sym count) (subst (λ (ws : List ℕ). P new ws (length old)) (sym is) (replay_one disk old new r passes held won)))
