-- How the records of a region are read one after the other.
use Rattle.def_crash.proofs.MomentLemmas.{reads_refl, reads_trans}
use Rattle.std.proofs.Common.{map, ◌≡◌, ◌≢◌, ◌≤◌, ◌<◌, ◌+◌, ◌-◌, ◌*◌, ℕ, suc, List, [], ◌∷◌, ◌++◌, length, take, Some, None, Result, Ok, Err, Bool, true, refl, sym, ap, ◌∙◌, subst, arith, length-append, append_assoc}
use Rattle.std.proofs.lemmas.Bool.{eqb-true, eq-eqb, and_from}
use Rattle.std.proofs.lemmas.List.{append-nil, map-append}
use Rattle.def_crash.specs.Image.{Image, window}
use Rattle.def_crash.specs.Moments.{DiskView, OnlyReads}
use Rattle.std.specs.List.{list_all}
use Rattle.strat_base.specs.Change.{Change, change_bytes, change_in, is_lawful}
use Rattle.def_bytes.specs.Layout.{region_at, region_size, is_open}
use Rattle.strat_journal.specs.declared.journal.Logged.{Logged as Owned}
use Rattle.def_bytes.specs.Damage.{put_first}
use Rattle.def_bytes.specs.Records.{Logged, records_bytes, block_of, record_then, records, first_records}
use Rattle.strat_journal.specs.Records.{logged_of}
use Rattle.strat_journal.proofs.LaidLemmas.{joined, records_bytes-append, all_lawful-append}
use Rattle.strat_journal.specs.RegionReader.{ReadSoFar, MatchesImage, ReadsOn, EndsRecord, AreRecords, Stored, StoredNone}
use Rattle.strat_journal.proofs.RecordLemmas.{open_gate, shut_gate}

-- the records from a place on that are still to be read
abbrev pub left : Image → ℕ → ℕ → ℕ → ℕ → Result (List Logged) ℕ
left f mem region n at = records f (region_at mem region + region_size mem) n (region_at mem region + at)

abbrev changes_of : List Owned → List Change
changes_of items = map (λ (l : Owned). l.change) items

-- after n records of the first ones of a region
pub record SoFar (old now : DiskView) (before reads : ℕ) (mem region most n at : ℕ) (part : ReadSoFar) (items : List Owned) : Type 0 where
  pub first : part.first ≡ region_at mem region
  pub size : part.size ≡ region_size mem
  pub near : at ≤ length part.bytes
  pub far : at ≤ 1288 * n
  pub within : length part.bytes ≤ part.size
  pub count : length items ≡ n
  pub looks : OnlyReads old now
  pub shows : (f : Image) → old.content ≡ Some f → MatchesImage f part
  pub found : (f : Image) → old.content ≡ Some f → first_records f mem region most ≡ joined (map logged_of items) (left f mem region (most - n) at)
  pub kept : AreRecords (take at part.bytes) items
  pub fewest : before ≤ reads
  pub each_once : 4096 * reads ≤ 4096 * before + length part.bytes

-- the bytes of records and of one more
pub records_more : (bytes more : List ℕ) (items : List Owned) (l : Owned) → AreRecords bytes items → more ≡ bytes ++ 0xa7 ∷ change_bytes l.change → is_lawful l.change ≡ true
    → (all : List Owned) → all ≡ items ++ l ∷ [] → AreRecords more all
records_more bytes more items l are more_is lawful all all_is =
    let mapped : changes_of all ≡ changes_of items ++ l.change ∷ [] = ap changes_of all_is ∙ map-append (λ (l : Owned). l.change) items (l ∷ []) in
    record {
      text = more_is
          ∙ (λ i. are.text i ++ 0xa7 ∷ sym (append-nil (change_bytes l.change)) i)
          ∙ sym (records_bytes-append (changes_of items) (l.change ∷ []))
          ∙ ap records_bytes (sym mapped);
      lawful = ap (list_all is_lawful) mapped ∙ all_lawful-append (changes_of items) (l.change ∷ []) are.lawful (and_from (is_lawful l.change) true lawful refl);
    }

-- the same front of bytes that were read on
pub front_kept : (bytes more : List ℕ) (at : ℕ) (front : List ℕ) (items : List Owned) → AreRecords (take at bytes) items → take at more ≡ take at bytes → front ≡ take at more → AreRecords front items
front_kept bytes more at front items are same front_is = subst (λ (x : List ℕ). AreRecords x items) (sym (front_is ∙ same)) are

pub joined_none : {X : Type 0} (r : Result (List X) ℕ) → joined [] r ≡ r
joined_none (Ok xs) = refl
joined_none (Err block) = refl

pub joined_first : {X : Type 0} (xs : List X) (x : X) (r : Result (List X) ℕ) → joined xs (put_first x r) ≡ joined (xs ++ x ∷ []) r
joined_first xs x (Ok ys) = ap (λ (zs : List _). Ok zs) (sym (append_assoc xs (x ∷ []) ys))
joined_first xs x (Err block) = refl

module _ (f : Image) (mem region : ℕ) (part : ReadSoFar) (first : part.first ≡ region_at mem region) (size : part.size ≡ region_size mem) (at m : ℕ) where
  abbrev place : ℕ
  place = region_at mem region + at

  abbrev end : ℕ
  end = region_at mem region + region_size mem

  place_is : part.first + at ≡ place
  place_is = omega (arith, first)

  behind : change_in (window f (place + 1) (end - (place + 1))) ≡ change_in (window f (part.first + at + 1) (part.size - (at + 1)))
  behind =
      let from : place + 1 ≡ part.first + at + 1 = omega (arith, first) in
      let more : end - (place + 1) ≡ part.size - (at + 1) = omega (arith, size) in
      λ i. change_in (window f (from i) (more i))

  -- a record is read, and then those that follow it
  pub left_record : (l : Owned) (next : ℕ) → Stored f part at (Some (l, next)) → left f mem region (suc m) at ≡ put_first (logged_of l) (left f mem region m next)
  unfolding records
  left_record l next stored =
      let follows : place + 1 + length (change_bytes l.change) ≡ region_at mem region + next = omega (arith, stored.3) in
      let block : block_of place ≡ l.block = ap block_of (sym place_is) ∙ sym stored.2 in
      let same : ◌≡◌ {A = Logged} (record { change = l.change; block = block_of place }) (logged_of l) = λ i. record { change = l.change; block = block i } in
      open_gate (f place) _ (Ok []) (ap f (sym place_is) ∙ stored.0)
      ∙ ap (record_then place (λ n. records f end m n)) (behind ∙ stored.1)
      ∙ (λ i. put_first (same i) (records f end m (follows i)))

  pub left_shut : Stored f part at None → left f mem region (suc m) at ≡ Ok []
  unfolding records
  left_shut shut = shut_gate (f place) _ (Ok []) (λ up. shut (ap f place_is ∙ up))

  pub left_torn : (b : ℕ) → StoredNone f part at b → left f mem region (suc m) at ≡ Err b
  unfolding records
  left_torn b torn =
      let block : block_of place ≡ b = ap block_of (sym place_is) ∙ sym torn.2 in
      open_gate (f place) _ (Ok []) (ap f (sym place_is) ∙ torn.0)
      ∙ ap (record_then place (λ n. records f end m n)) (behind ∙ torn.1)
      ∙ ap (λ (n : ℕ). Err n) block

left_none : (f : Image) (mem region at : ℕ) → left f mem region 0 at ≡ Ok []
unfolding records
left_none f mem region at = refl

nothing_shown : (f : Image) (at : ℕ) → [] ≡ window f at 0
unfolding window
nothing_shown f at = refl

pub begun : (v : DiskView) (reads mem region most : ℕ) (part : ReadSoFar) (items : List Owned) → part ≡ record { first = region_at mem region; size = region_size mem; bytes = [] } → items ≡ []
    → SoFar v v reads reads mem region most 0 0 part items
begun v reads mem region most part items part_is none =
    subst (λ (p : ReadSoFar). SoFar v v reads reads mem region most 0 0 p items) (sym part_is)
    (subst (λ (xs : List Owned). SoFar v v reads reads mem region most 0 0 (record { first = region_at mem region; size = region_size mem; bytes = [] }) xs) (sym none) (record {
      first = refl;
      size = refl;
      near = omega arith;
      far = omega arith;
      within = omega arith;
      count = refl;
      looks = reads_refl v;
      shows = λ f exposed. nothing_shown f (region_at mem region);
      found = λ f exposed.
          let all : most ≡ most - 0 = omega arith in
          let start : region_at mem region ≡ region_at mem region + 0 = omega arith in
          (λ i. records f (region_at mem region + region_size mem) (all i) (start i)) ∙ sym (joined_none (left f mem region (most - 0) 0));
      kept = record { text = refl; lawful = refl };
      fewest = omega arith;
      each_once = omega arith;
    }))

module _ (old mid new : DiskView) (before between reads : ℕ) (mem region most n at : ℕ) (part next : ReadSoFar) (items : List Owned) (sofar : SoFar old mid before between mem region most n at part items) where
  abbrev logged : List Logged
  logged = map logged_of items

  abbrev rest : Image → Result (List Logged) ℕ
  rest f = left f mem region (suc (most - (n + 1))) at

  found_left : n < most → (f : Image) → old.content ≡ Some f → first_records f mem region most ≡ joined logged (rest f)
  found_left few f exposed = let m : most - n ≡ suc (most - (n + 1)) = omega arith in sofar.found f exposed ∙ ap (λ (k : ℕ). joined logged (left f mem region k at)) m

  pub one_more : {T E : Type 0} (x : T) (l : Owned) (to : ℕ) → n < most → ReadsOn {T = T} {E = E} mid new between reads part next (Ok x)
      → ((f : Image) → mid.content ≡ Some f → MatchesImage f part → Stored f part at (Some (l, to))) → (to ≤ at + 1288) × (to ≤ length next.bytes)
      → EndsRecord next.bytes at l.change to → (all : List Owned) → all ≡ items ++ l ∷ [] → SoFar old new before reads mem region most (n + 1) to next all
  one_more x l to few on there near ends all all_is = record {
    first = on.first ∙ sofar.first;
    size = on.size ∙ sofar.size;
    near = near.1;
    far = omega (arith, sofar.far, near.0);
    within = on.within;
    count = omega (arith, ap length all_is, length-append items (l ∷ []), sofar.count);
    looks = reads_trans sofar.looks on.looks;
    shows = λ f exposed. on.shows f (sofar.looks.same ∙ exposed) (sofar.shows f exposed);
    found = λ f exposed.
        found_left few f exposed
        ∙ ap (joined logged) (left_record f mem region part sofar.first sofar.size at (most - (n + 1)) l to (there f (sofar.looks.same ∙ exposed) (sofar.shows f exposed)))
        ∙ joined_first logged (logged_of l) (left f mem region (most - (n + 1)) to)
        ∙ ap (λ (xs : List Logged). joined xs (left f mem region (most - (n + 1)) to)) (sym (map-append logged_of items (l ∷ [])) ∙ ap (map logged_of) (sym all_is));
    kept = records_more (take at part.bytes) (take to next.bytes) items l (sofar.kept) (ends.text ∙ ap (λ (x : List ℕ). x ++ 0xa7 ∷ change_bytes l.change) (on.front at sofar.near)) ends.lawful all all_is;
    fewest = omega (arith, sofar.fewest, on.fewest);
    each_once = omega (arith, sofar.each_once, on.each_once);
  }

  pub ends_shut : n < most → ((f : Image) → mid.content ≡ Some f → MatchesImage f part → Stored f part at None) → (f : Image) → old.content ≡ Some f → first_records f mem region most ≡ Ok logged
  ends_shut few there f exposed =
      found_left few f exposed
      ∙ ap (joined logged) (left_shut f mem region part sofar.first sofar.size at (most - (n + 1)) (there f (sofar.looks.same ∙ exposed) (sofar.shows f exposed)))
      ∙ ap (λ (xs : List Logged). Ok xs) (append-nil logged)

  pub ends_torn : (b : ℕ) → n < most → ((f : Image) → mid.content ≡ Some f → MatchesImage f part → StoredNone f part at b) → (f : Image) → old.content ≡ Some f → first_records f mem region most ≡ Err b
  ends_torn b few there f exposed =
      found_left few f exposed
      ∙ ap (joined logged) (left_torn f mem region part sofar.first sofar.size at (most - (n + 1)) b (there f (sofar.looks.same ∙ exposed) (sofar.shows f exposed)))

  pub ends_full : most ≤ n → (f : Image) → old.content ≡ Some f → first_records f mem region most ≡ Ok logged
  ends_full full f exposed =
      let none : most - n ≡ 0 = omega arith in
      sofar.found f exposed
      ∙ ap (λ (k : ℕ). joined logged (left f mem region k at)) none
      ∙ ap (joined logged) (left_none f mem region at)
      ∙ ap (λ (xs : List Logged). Ok xs) (append-nil logged)

-- the error that is handed on is the one that came
pub same_err : {T U E : Type 0} (r : Result T E) (x y z : E) → r ≡ Err x → x ≡ y → r ≡ Err z → ◌≡◌ {A = Result U E} (Err y) (Err z)
same_err r x y z e same f = let g : Err x ≡ Err z = sym e ∙ f in let h : x ≡ z = cc in ap (λ (w : _). Err w) (sym same ∙ h)

-- an open gate of the other region is stale exactly where the active one is not full
pub stale_is : (b : Bool) (gate mem count list : ℕ) → b ≡ is_open gate → count ≤ mem → (b ≡ true → count ≢ mem) → list ≡ count
    → (b ≡ true → (list < mem) × (gate ≡ 0xa7)) × ((list < mem) × (gate ≡ 0xa7) → b ≡ true)
stale_is b gate mem count list e few apart same = (
  λ up. (let other = apart up in omega (arith, few, other), eqb-true gate 0xa7 (sym e ∙ up)),
  λ stale. e ∙ eq-eqb gate 0xa7 stale.1,
)
