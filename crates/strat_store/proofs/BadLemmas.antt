-- A block that is called damaged is bad.
use Rattle.std.proofs.Common.{◌≡◌, ◌∙◌, ◌⊎◌, ◌-◌, ◌&&◌, inl, inr, ℕ, suc, Bool, false, eqb, ltb, leb, List, [], ◌∷◌, ◌++◌, length, Option, Some, None, append_assoc, refl, sym, ap, subst, arith}
use Rattle.std.specs.List.{list_all, slice_get}
use Rattle.std.specs.Option.{option_map, option_and_then}
use Rattle.std.proofs.lemmas.Bool.{cases_Bool, eq-eqb}
use Rattle.std.proofs.lemmas.List.{append-nil}
use Rattle.strat_array.proofs.EntriesOnLemmas.{entries_on-append}
use Rattle.strat_base.proofs.ListFacts.{among_flat, any_from}
use Rattle.strat_base.proofs.ResultFacts.{option_cases}
use Rattle.strat_base.specs.Entries.{Entry, lead_entries}
use Rattle.strat_base.specs.declared.descriptors.ArrayDesc.{ArrayDesc}
use Rattle.strat_base.specs.declared.descriptors.LevelDesc.{LevelDesc}
use Rattle.def_crash.specs.Image.{Image}
use Rattle.strat_cursor.specs.Looking.{arrays_there}
use Rattle.def_bytes.specs.Arrays.{block_on, blocks_of, entries_on}
use Rattle.strat_promote.specs.Job.{blocks_listed}
use Rattle.strat_promote.specs.Leads.{comes_after, last_of, misfit_after}
use Rattle.strat_promote.proofs.LeadLemmas.{misfit_back, misfit_none, misfit_step, no_misfit}
use Rattle.def_recovery.specs.Bad.{IsBad, begins_after, misplaced, unread}
use Rattle.def_publish.proofs.ListLemmas.{among_contained, contained_among}
use Rattle.strat_publish.specs.Outcomes.{IsDamagedIn}
use Rattle.strat_memory.specs.Held.{arrays_held}
use Rattle.strat_memory.specs.Memory.{Memory}

-- no blocks have no entries, and one has its own
nothing_read : (f : Image) → entries_on f [] ≡ Some []
unfolding entries_on
nothing_read f = refl

one_read : (f : Image) (b : ℕ) (entries : List Entry) → block_on f b ≡ Some entries → entries_on f (b ∷ []) ≡ Some entries
unfolding entries_on
one_read f b entries here =
    ap (λ (o : Option (List Entry)). option_and_then (λ es. option_map (λ rest. es ++ rest) (Some [])) o) here ∙ ap (λ (es : List Entry). Some es) (append-nil entries)

-- the last of entries, said in two ways
last_both : (o : Option Entry) (xs ys : List Entry) → last_of o (xs ++ ys) ≡ last_of (last_of o xs) ys
last_both o [] ys = refl
last_both o (e ∷ xs) ys = last_both (Some e) xs ys

last_got : (o : Option Entry) (e : Entry) (xs : List Entry) → slice_get (e ∷ xs) (length (e ∷ xs) - 1) ≡ last_of o (e ∷ xs)
last_got o e [] = refl
last_got o e (d ∷ xs) =
    let more : length (e ∷ d ∷ xs) - 1 ≡ suc (length (d ∷ xs) - 1) = omega arith in
    ap (slice_get (e ∷ d ∷ xs)) more ∙ last_got (Some e) d xs

last_is : (xs : List Entry) → slice_get xs (length xs - 1) ≡ last_of None xs
last_is [] = refl
last_is (e ∷ xs) = last_got None e xs

begins_so : (o : Option Entry) (entries : List Entry) → begins_after o entries ≡ comes_after o entries
begins_so None entries = refl
begins_so (Some e) [] = refl
begins_so (Some e) (d ∷ entries) = refl

-- a block among others has entries that do not come after those before it
record IsBehind (f : Image) (blocks : List ℕ) (b : ℕ) : Type 0 where
  front : List ℕ
  back : List ℕ
  place : blocks ≡ front ++ b ∷ back
  before : List Entry
  entries : List Entry
  earlier : entries_on f front ≡ Some before
  here : block_on f b ≡ Some entries
  after : comes_after (last_of None before) entries ≡ false

-- where a reading of blocks stops there are no entries, or such
stops : (f : Image) (front : List ℕ) (before : List Entry) (blocks : List ℕ) (b : ℕ) → entries_on f front ≡ Some before → misfit_after f (last_of None before) blocks ≡ Some b
    → (block_on f b ≡ None) ⊎ IsBehind f (front ++ blocks) b
stops f front before [] b read bad = absurd (let e : None ≡ Some b = sym (no_misfit f (last_of None before)) ∙ bad in cc)
stops f front before (x ∷ blocks) b read bad =
    elim (option_cases (block_on f x)) [
      | inl none ↦
          let e : Some x ≡ Some b = sym (misfit_none f (last_of None before) x blocks none) ∙ bad in
          let same : x ≡ b = cc in
          inl (subst (λ (n : ℕ). block_on f n ≡ None) same none)
      | inr some ↦
          elim (cases_Bool (comes_after (last_of None before) some.0)) [
            | inl after ↦
                let more =
                stops f (front ++ x ∷ []) (before ++ some.0) blocks b (entries_on-append f front (x ∷ []) before some.0 read (one_read f x some.0 some.1))
                (ap (λ (o : Option Entry). misfit_after f o blocks) (last_both None before some.0) ∙ sym (misfit_step f (last_of None before) x blocks some.0 some.1 after) ∙ bad) in
                elim more [
                  | inl none ↦ inl none
                  | inr behind ↦ inr (subst (λ (all : List ℕ). IsBehind f all b) (append_assoc front (x ∷ []) blocks) behind)
                ]
            | inr back ↦
                let e : Some x ≡ Some b = sym (misfit_back f (last_of None before) x blocks some.0 some.1 back) ∙ bad in
                let same : x ≡ b = cc in
                inr (subst (λ (n : ℕ). IsBehind f (front ++ x ∷ blocks) n) same
                (record { front = front; back = blocks; place = refl; before = before; entries = some.0; earlier = read; here = some.1; after = back }))
          ]
    ]

pub damaged_bad : (f : Image) (content : Option Image) (m : Memory) (levels : List (Option LevelDesc)) (versions b : ℕ) → content ≡ Some f → IsDamagedIn content m levels b
    → IsBad f versions (arrays_held m levels) (arrays_there levels) b
damaged_bad f content m levels versions b told is =
    elim (is.bad f told) [
      | inl none ↦ named none
      | inr input ↦
          elim (stops f [] [] (blocks_of input.array.extents) b (nothing_read f) input.misfit) [
            | inl none ↦ named none
            | inr x ↦
                let begins : begins_after (slice_get x.before (length x.before - 1)) x.entries ≡ false =
                ap (λ (o : Option Entry). begins_after o x.entries) (last_is x.before) ∙ begins_so (last_of None x.before) x.entries ∙ x.after in
                misplaced input.array input.one (record {
                  front = x.front;
                  back = x.back;
                  place = x.place;
                  before = x.before;
                  entries = x.entries;
                  earlier = x.earlier;
                  here = x.here;
                  misfit = ap (λ (t : Bool). t && list_all (λ e. ltb e.version versions) x.entries && leb (length (lead_entries input.array.versions (x.before ++ x.entries))) input.array.leads) begins;
                })
          ]
    ]
  where
    named : block_on f b ≡ None → IsBad f versions (arrays_held m levels) (arrays_there levels) b
    named none =
        let all = arrays_held m levels in
        let at = among_flat (λ (a : ArrayDesc). blocks_of a.extents) all b (contained_among (blocks_listed all) b is.listed) in
        unread at.0 (among_contained all at.0 at.1) (record { mine = any_from (λ other. eqb other b) b (blocks_of at.0.extents) at.2 (eq-eqb b b refl); unread = none })
