-- Entries of blocks that are read one after another.
use Rattle.std.proofs.Common.{◌≡◌, ◌<◌, ◌-◌, ◌*◌, ℕ, suc, get_or, IsSome, IfSome, length-append, Bool, true, false, cond, ltb, leb, ◌&&◌, inl, inr, List, [], ◌∷◌, ◌++◌, length, Option, Some, None, refl, sym, ap, ◌∙◌, subst, true≢false, arith, append_assoc}
use Rattle.std.specs.List.{list_all, Contains}
use Rattle.std.specs.Option.{option_map_or, option_map, option_and_then}
use Rattle.std.specs.Ordering.{is_lt}
use Rattle.std.specs.declared.cmp.Ordering.{Ordering}
use Rattle.std.specs.declared.cmp.Ordering.TheVariants.{Less, Equal, Greater}
use Rattle.std.proofs.lemmas.Bool.{and_parts, and_from, cases_Bool, ltb-true}
use Rattle.std.proofs.lemmas.List.Elements.{Contains-append_right}
use Rattle.strat_base.specs.Entries.{Entry, is_ascending}
use Rattle.strat_base.specs.EntryBytes.{fits_fields}
use Rattle.strat_base.proofs.ListFacts.{Among, all_from}
use Rattle.strat_base.proofs.ResultFacts.{option_cases}
use Rattle.def_crash.specs.Blocks.{AgreeOn}
use Rattle.def_crash.specs.Image.{Image, window}
use Rattle.def_crash.proofs.ImageLemmas.{window_same}
use Rattle.def_bytes.specs.Block.{block_in, block_front, fits_block}
use Rattle.def_bytes.specs.Arrays.{block_on, entries_on}
use Rattle.def_bytes.proofs.BlockLemmas.{block_in-some}
use Rattle.def_state.proofs.SettingLemmas.{order, order_trans, stands_first, first_of}
use Rattle.strat_array.specs.Kept.{Kept}
use Rattle.def_crash.specs.Moments.{DiskView, Exposes}
use Rattle.def_crash.specs.Faults.{ReadsAtMost}
use Rattle.strat_merge.specs.Runs.{ReadsFront}
use Rattle.std.proofs.lemmas.List.{append-nil}
use Rattle.strat_promote.specs.LeadRuns.{BlockReading, entries_at_hand, key_alone, misfit_from}
use Rattle.strat_promote.specs.Leads.{comes_after, last_of, entries_after, misfit_after}

-- entries ascend, and the first of them comes after one, if there is one
abbrev pub ascends_after : Option Entry → List Entry → Bool
ascends_after None entries = is_ascending entries
ascends_after (Some e) entries = is_ascending (e ∷ entries)

-- an entry that is before another one
pub is_less : (e d : Entry) → is_lt (order e d) ≡ true → order e d ≡ Less
is_less e d lt = go (order e d) lt
  where
    go : (o : Ordering) → is_lt o ≡ true → o ≡ Less
    go Less h = refl
    go Equal h = absurd (true≢false (sym h))
    go Greater h = absurd (true≢false (sym h))

-- an entry before the first of some that ascend is before all of them
pub first_before_all : (e d : Entry) (entries : List Entry) → is_lt (order e d) ≡ true → is_ascending (d ∷ entries) ≡ true → stands_first e (d ∷ entries) ≡ true
first_before_all e d entries lt up =
    and_from (is_lt (order e d)) (stands_first e entries) lt
    (all_from (λ later. is_lt (order e later)) entries
    (λ f among. ap is_lt (order_trans e d f (is_less e d lt) (first_of d f entries (and_parts (stands_first d entries) (is_ascending entries) up).0 among))))

pub ascends_on : (before : Option Entry) (entries : List Entry) → comes_after before entries ≡ true → is_ascending entries ≡ true → ascends_after before entries ≡ true
ascends_on None entries after up = up
ascends_on (Some e) [] after up = refl
ascends_on (Some e) (d ∷ entries) after up = and_from (stands_first e (d ∷ entries)) (is_ascending (d ∷ entries)) (first_before_all e d entries after up) up

-- some entries ascend, and others behind the last of them
pub ascends_both : (before : Option Entry) (xs ys : List Entry) → ascends_after before xs ≡ true → ascends_after (last_of before xs) ys ≡ true → ascends_after before (xs ++ ys) ≡ true
ascends_both before [] ys first second = second
ascends_both None (e ∷ xs) ys first second = ascends_both (Some e) xs ys first second
ascends_both (Some b) (e ∷ xs) ys first second =
    let parts' = and_parts (stands_first b (e ∷ xs)) (is_ascending (e ∷ xs)) first in
    let rest : is_ascending (e ∷ (xs ++ ys)) ≡ true = ascends_both (Some e) xs ys parts'.1 second in
    let lt = (and_parts (is_lt (order b e)) (stands_first b xs) parts'.0).0 in
    and_from (stands_first b (e ∷ (xs ++ ys))) (is_ascending (e ∷ (xs ++ ys))) (first_before_all b e (xs ++ ys) lt rest) rest

-- what is known of a block's entries
pub record AreOfBlock (entries : List Entry) : Type 0 where
  pub some : 0 < length entries
  pub ascending : is_ascending entries ≡ true

pub fits_as_block : (entries : List Entry) → fits_block entries ≡ true → AreOfBlock entries
fits_as_block entries fits =
    let one = and_parts (ltb 0 (length entries) && list_all fits_fields entries && is_ascending entries) (leb (length (block_front entries)) 4096) fits in
    let two = and_parts (ltb 0 (length entries) && list_all fits_fields entries) (is_ascending entries) one.0 in
    let three = and_parts (ltb 0 (length entries)) (list_all fits_fields entries) two.0 in
    record { some = ltb-true 0 (length entries) three.0; ascending = two.1 }

pub block_ascends : (c : Image) (b : ℕ) (entries : List Entry) → block_on c b ≡ Some entries → AreOfBlock entries
block_ascends c b entries is = fits_as_block entries (block_in-some (window c (4096 * b) 4096) entries is).fits

module _ (c : Image) (before : Option Entry) (b : ℕ) (blocks : List ℕ) where
  -- a block that is none ends what is read
  pub entries_none : block_on c b ≡ None → entries_after c before (b ∷ blocks) ≡ []
  unfolding entries_after
  entries_none is =
      ap (λ (o : Option (List Entry)). option_map_or (λ entries. cond (comes_after before entries) (entries ++ entries_after c (last_of before entries) blocks) []) o []) is

  pub misfit_none : block_on c b ≡ None → misfit_after c before (b ∷ blocks) ≡ Some b
  unfolding misfit_after
  misfit_none is =
      ap (λ (o : Option (List Entry)). option_map_or (λ entries. cond (comes_after before entries) (misfit_after c (last_of before entries) blocks) (Some b)) o (Some b)) is

  module _ (entries : List Entry) (is : block_on c b ≡ Some entries) where
    pub entries_step : comes_after before entries ≡ true → entries_after c before (b ∷ blocks) ≡ entries ++ entries_after c (last_of before entries) blocks
    unfolding entries_after
    entries_step after =
        ap (λ (o : Option (List Entry)). option_map_or (λ xs. cond (comes_after before xs) (xs ++ entries_after c (last_of before xs) blocks) []) o []) is
        ∙ ap (λ (t : Bool). cond t (entries ++ entries_after c (last_of before entries) blocks) []) after

    pub entries_back : comes_after before entries ≡ false → entries_after c before (b ∷ blocks) ≡ []
    unfolding entries_after
    entries_back after =
        ap (λ (o : Option (List Entry)). option_map_or (λ xs. cond (comes_after before xs) (xs ++ entries_after c (last_of before xs) blocks) []) o []) is
        ∙ ap (λ (t : Bool). cond t (entries ++ entries_after c (last_of before entries) blocks) []) after

    pub misfit_step : comes_after before entries ≡ true → misfit_after c before (b ∷ blocks) ≡ misfit_after c (last_of before entries) blocks
    unfolding misfit_after
    misfit_step after =
        ap (λ (o : Option (List Entry)). option_map_or (λ xs. cond (comes_after before xs) (misfit_after c (last_of before xs) blocks) (Some b)) o (Some b)) is
        ∙ ap (λ (t : Bool). cond t (misfit_after c (last_of before entries) blocks) (Some b)) after

    pub misfit_back : comes_after before entries ≡ false → misfit_after c before (b ∷ blocks) ≡ Some b
    unfolding misfit_after
    misfit_back after =
        ap (λ (o : Option (List Entry)). option_map_or (λ xs. cond (comes_after before xs) (misfit_after c (last_of before xs) blocks) (Some b)) o (Some b)) is
        ∙ ap (λ (t : Bool). cond t (misfit_after c (last_of before entries) blocks) (Some b)) after

pub nothing_after : (c : Image) (before : Option Entry) → entries_after c before [] ≡ []
unfolding entries_after
nothing_after c before = refl

pub no_misfit : (c : Image) (before : Option Entry) → misfit_after c before [] ≡ None
unfolding misfit_after
no_misfit c before = refl

-- an entry alone ascends after any
after_nothing : (before : Option Entry) → ascends_after before [] ≡ true
after_nothing None = refl
after_nothing (Some e) = refl

-- what is read of blocks ascends
pub read_ascends : (c : Image) (before : Option Entry) (blocks : List ℕ) → ascends_after before (entries_after c before blocks) ≡ true
read_ascends c before [] = ap (ascends_after before) (nothing_after c before) ∙ after_nothing before
read_ascends c before (b ∷ blocks) =
    elim (option_cases (block_on c b)) [
      | inl none ↦ ap (ascends_after before) (entries_none c before b blocks none) ∙ after_nothing before
      | inr some ↦ elim (cases_Bool (comes_after before some.0)) [
        | inl after ↦
            ap (ascends_after before) (entries_step c before b blocks some.0 some.1 after)
            ∙ ascends_both before some.0 (entries_after c (last_of before some.0) blocks)
            (ascends_on before some.0 after (block_ascends c b some.0 some.1).ascending) (read_ascends c (last_of before some.0) blocks)
        | inr back ↦ ap (ascends_after before) (entries_back c before b blocks some.0 some.1 back) ∙ after_nothing before
      ]
    ]

-- the last of some entries is one of them
pub last_at : (before : Option Entry) (entries : List Entry) (d : Entry) → 0 < length entries → last_of before entries ≡ Some (get_or entries (length entries - 1) d)
last_at before [] d some = absurd (omega arith)
last_at before (e ∷ []) d some = refl
last_at before (e ∷ f ∷ entries) d some =
    let n : length (e ∷ f ∷ entries) - 1 ≡ suc (length (f ∷ entries) - 1) = omega arith in
    last_at (Some e) (f ∷ entries) d (omega arith) ∙ ap (λ (i : ℕ). Some (get_or (e ∷ f ∷ entries) i d)) (sym n)

pub last_same : (before : Option Entry) (entries : List Entry) → 0 < length entries → last_of before entries ≡ last_of None entries
last_same before [] some = absurd (omega arith)
last_same before (e ∷ entries) some = refl

pub last_among : (e : Entry) (entries : List Entry) → (l : Entry) × Among l (e ∷ entries) × (last_of (Some e) entries ≡ Some l)
last_among e [] = (e, inl refl, refl)
last_among e (f ∷ entries) = let rest = last_among f entries in (rest.0, inr rest.1, rest.2)

-- of entries that come after one, the first decides
pub comes_first : (before : Option Entry) (entries : List Entry) (e : Entry) → 0 < length entries → ((d : Entry) → e ≡ get_or entries 0 d) → comes_after before entries ≡ comes_after before (e ∷ [])
comes_first before [] e some is = absurd (omega arith)
comes_first None (f ∷ entries) e some is = refl
comes_first (Some b) (f ∷ entries) e some is = ap (λ (x : Entry). is_lt (order b x)) (sym (is f))

-- a key and a version decide what comes after an entry
pub comes_after_key : (before : Option Entry) (entries : List Entry) → comes_after (key_alone before) entries ≡ comes_after before entries
comes_after_key None entries = refl
comes_after_key (Some e) [] = refl
comes_after_key (Some e) (d ∷ entries) = refl

-- so they decide which block is bad
pub misfit_after_key : (c : Image) (before : Option Entry) (b : ℕ) (blocks : List ℕ) → misfit_after c (key_alone before) (b ∷ blocks) ≡ misfit_after c before (b ∷ blocks)
misfit_after_key c before b blocks =
    elim (option_cases (block_on c b)) [
      | inl none ↦ misfit_none c (key_alone before) b blocks none ∙ sym (misfit_none c before b blocks none)
      | inr some ↦
          let filled : 0 < length some.0 = (block_ascends c b some.0 some.1).some in
          elim (cases_Bool (comes_after before some.0)) [
            | inl after ↦
                misfit_step c (key_alone before) b blocks some.0 some.1 (comes_after_key before some.0 ∙ after)
                ∙ ap (λ (o : Option Entry). misfit_after c o blocks) (last_same (key_alone before) some.0 filled ∙ sym (last_same before some.0 filled))
                ∙ sym (misfit_step c before b blocks some.0 some.1 after)
            | inr back ↦
                misfit_back c (key_alone before) b blocks some.0 some.1 (comes_after_key before some.0 ∙ back)
                ∙ sym (misfit_back c before b blocks some.0 some.1 back)
          ]
    ]

-- the last entry of a block that a scratch holds
pub last_held : (held : Option Kept) (len : ℕ) (e : Entry) → len ≡ length (entries_at_hand held) → (len ≡ 0 → ⊥) → IfSome held (λ kept. (d : Entry) → e ≡ get_or kept.1 (len - 1) d) → Some e ≡ last_of None (entries_at_hand held)
last_held None len e is some there = absurd (some is)
last_held (Some kept) len e is some there =
    ap (λ (x : Entry). Some x) (there e ∙ ap (λ (n : ℕ). get_or kept.1 (n - 1) e) is) ∙ sym (last_at None kept.1 e (omega arith))

-- the first entry of a block that a scratch holds
pub first_held : (before : Option Entry) (held : Option Kept) (e : Entry) → 0 < length (entries_at_hand held) → IfSome held (λ kept. (d : Entry) → e ≡ get_or kept.1 0 d) → comes_after before (entries_at_hand held) ≡ comes_after before (e ∷ [])
first_held before None e some there = absurd (omega arith)
first_held before (Some kept) e some there = comes_first before kept.1 e some there

-- a block was read at most once
pub one_read : (b : ℕ) (blocks : List ℕ) (before now : ℕ) → ReadsAtMost 1 before now → ReadsFront (b ∷ blocks) blocks before now
one_read b blocks before now reads = record { read = b ∷ []; split = refl; later = reads.later; most = reads.bound }

-- nothing is left to read
pub last_read : (b : ℕ) (blocks : List ℕ) (before now : ℕ) → ReadsAtMost 1 before now → ReadsFront (b ∷ blocks) [] before now
last_read b blocks before now reads =
    record { read = b ∷ blocks; split = sym (append-nil (b ∷ blocks)); later = reads.later; most = let m = reads.bound in omega arith }

pub front_refl : (blocks : List ℕ) (n : ℕ) → ReadsFront blocks blocks n n
front_refl blocks n = record { read = []; split = refl; later = omega arith; most = omega arith }

pub front_trans : (a b c : List ℕ) (p q r : ℕ) → ReadsFront a b p q → ReadsFront b c q r → ReadsFront a c p r
front_trans a b c p q r one two =
    record {
      read = one.read ++ two.read;
      split = one.split ∙ ap (λ (x : List ℕ). one.read ++ x) two.split ∙ sym (append_assoc one.read two.read c);
      later = let l = one.later in let m = two.later in omega arith;
      most = let l = one.most in let m = two.most in omega (arith, length-append {A = ℕ});
    }

-- a block that is still to be read was so before
pub front_contains : (a b : List ℕ) (p q n : ℕ) → ReadsFront a b p q → Contains b n → Contains a n
front_contains a b p q n front here = subst (λ (xs : List ℕ). Contains xs n) (sym front.split) (Contains-append_right front.read b n here)

-- the blocks of two images that have the same bytes are read alike
module _ (c d : Image) where
  same_block : (b : ℕ) (blocks : List ℕ) → AgreeOn (b ∷ blocks) c d → block_on d b ≡ block_on c b
  same_block b blocks agree = ap block_in (window_same c d (4096 * b) 4096 (agree b (0, omega arith, refl)))

  later_blocks : (b : ℕ) (blocks : List ℕ) → AgreeOn (b ∷ blocks) c d → AgreeOn blocks c d
  later_blocks b blocks agree n here = agree n (Contains-append_right (b ∷ []) blocks n here)

  pub entries_same : (before : Option Entry) (blocks : List ℕ) → AgreeOn blocks c d → entries_after c before blocks ≡ entries_after d before blocks
  entries_same before [] agree = nothing_after c before ∙ sym (nothing_after d before)
  entries_same before (b ∷ blocks) agree =
      let same = same_block b blocks agree in
      elim (option_cases (block_on c b)) [
        | inl none ↦ entries_none c before b blocks none ∙ sym (entries_none d before b blocks (same ∙ none))
        | inr some ↦ elim (cases_Bool (comes_after before some.0)) [
          | inl after ↦
              entries_step c before b blocks some.0 some.1 after
              ∙ ap (λ (xs : List Entry). some.0 ++ xs) (entries_same (last_of before some.0) blocks (later_blocks b blocks agree))
              ∙ sym (entries_step d before b blocks some.0 (same ∙ some.1) after)
          | inr back ↦ entries_back c before b blocks some.0 some.1 back ∙ sym (entries_back d before b blocks some.0 (same ∙ some.1) back)
        ]
      ]

  pub misfit_same : (before : Option Entry) (blocks : List ℕ) → AgreeOn blocks c d → misfit_after c before blocks ≡ misfit_after d before blocks
  misfit_same before [] agree = no_misfit c before ∙ sym (no_misfit d before)
  misfit_same before (b ∷ blocks) agree =
      let same = same_block b blocks agree in
      elim (option_cases (block_on c b)) [
        | inl none ↦ misfit_none c before b blocks none ∙ sym (misfit_none d before b blocks (same ∙ none))
        | inr some ↦ elim (cases_Bool (comes_after before some.0)) [
          | inl after ↦
              misfit_step c before b blocks some.0 some.1 after
              ∙ misfit_same (last_of before some.0) blocks (later_blocks b blocks agree)
              ∙ sym (misfit_step d before b blocks some.0 (same ∙ some.1) after)
          | inr back ↦ misfit_back c before b blocks some.0 some.1 back ∙ sym (misfit_back d before b blocks some.0 (same ∙ some.1) back)
        ]
      ]

-- how many entries a block has that a scratch holds
pub held_count : (held : Option Kept) (n : ℕ) → IsSome held → IfSome held (λ kept. n ≡ length kept.1) → n ≡ length (entries_at_hand held)
held_count None n some is = absurd (true≢false (sym some))
held_count (Some kept) n some is = is

-- what a scratch read is the block of an image
pub held_on : (held : Option Kept) (A : Kept → Type 0) (v : DiskView) (b : ℕ) → IsSome held → IfSome held (λ kept. A kept × ((f : Image) → Exposes v f → block_on f b ≡ Some kept.1))
    → (f : Image) → Exposes v f → block_on f b ≡ Some (entries_at_hand held)
held_on None A v b some is = absurd (true≢false (sym some))
held_on (Some kept) A v b some is = is.1

-- the blocks of a reading that goes on
pub next_left : (r : BlockReading) (entries : List Entry) (spent : Bool) (numbers rest : List ℕ) (b : ℕ) → record { entries = entries; blocks = cond spent [] numbers } ≡ r → spent ≡ false → numbers ≡ b ∷ rest → r.blocks ≡ b ∷ rest
next_left r entries spent numbers rest b view on is =
    sym (ap (λ (x : BlockReading). x.blocks) view) ∙ ap (λ (t : Bool). cond t [] numbers) on ∙ is

pub turned_front : (old rest : List ℕ) (spent : Bool) (b before now : ℕ) → old ≡ b ∷ rest → spent ≡ false → ReadsAtMost 1 before now → ReadsFront old (cond spent [] rest) before now
turned_front old rest true b before now is on reads = absurd (true≢false on)
turned_front old rest false b before now is on reads = subst (λ (xs : List ℕ). ReadsFront xs rest before now) (sym is) (one_read b rest before now reads)

pub ended_front : (old rest : List ℕ) (b before now : ℕ) → old ≡ b ∷ rest → ReadsAtMost 1 before now → ReadsFront old [] before now
ended_front old rest b before now is reads = subst (λ (xs : List ℕ). ReadsFront xs [] before now) (sym is) (last_read b rest before now reads)

-- a block that is bad for the key of the last entry is bad for the reading
pub bad_next : (r : BlockReading) (last : Option Entry) (rest : List ℕ) (b : ℕ) (f : Image) → r.blocks ≡ b ∷ rest → last ≡ key_alone (last_of None r.entries)
    → misfit_after f last (b ∷ rest) ≡ Some b → misfit_from f r ≡ Some b
bad_next r last rest b f is kept bad =
    ap (misfit_after f (last_of None r.entries)) is
    ∙ sym (misfit_after_key f (last_of None r.entries) b rest)
    ∙ ap (λ (o : Option Entry). misfit_after f o (b ∷ rest)) (sym kept)
    ∙ bad

-- entries that ascend behind one are a block's and those behind it
pub parts_ascend : (before : Option Entry) (xs ys : List Entry) → ascends_after before (xs ++ ys) ≡ true → (comes_after before xs ≡ true) × (ascends_after (last_of before xs) ys ≡ true)
parts_ascend None [] ys up = (refl, up)
parts_ascend (Some e) [] ys up = (refl, up)
parts_ascend None (e ∷ xs) ys up = (refl, (parts_ascend (Some e) xs ys up).1)
parts_ascend (Some b) (e ∷ xs) ys up =
    let parts' = and_parts (stands_first b (e ∷ (xs ++ ys))) (is_ascending (e ∷ (xs ++ ys))) up in
    ((and_parts (is_lt (order b e)) (stands_first b (xs ++ ys)) parts'.0).0, (parts_ascend (Some e) xs ys parts'.1).1)

-- blocks whose entries ascend are read to their end, and none of them is bad
pub read_whole : (f : Image) (before : Option Entry) (blocks : List ℕ) (entries : List Entry) → entries_on f blocks ≡ Some entries → ascends_after before entries ≡ true
    → (entries_after f before blocks ≡ entries) × (misfit_after f before blocks ≡ None)
unfolding entries_on
read_whole f before [] entries on up = (nothing_after f before ∙ (cc), no_misfit f before)
read_whole f before (b ∷ blocks) entries on up =
    elim (option_cases (block_on f b)) [
      | inl none ↦ absurd (let e = ap (λ (o : Option (List Entry)). option_and_then (λ es. option_map (λ rest. es ++ rest) (entries_on f blocks)) o) (sym none) ∙ on in cc)
      | inr here ↦
          let e = ap (λ (o : Option (List Entry)). option_and_then (λ es. option_map (λ rest. es ++ rest) (entries_on f blocks)) o) (sym here.1) ∙ on in
          elim (option_cases (entries_on f blocks)) [
            | inl none ↦ absurd (let d = ap (λ (o : Option (List Entry)). option_map (λ rest. here.0 ++ rest) o) (sym none) ∙ e in cc)
            | inr rest ↦
                let d = ap (λ (o : Option (List Entry)). option_map (λ r. here.0 ++ r) o) (sym rest.1) ∙ e in
                let same : here.0 ++ rest.0 ≡ entries = cc in
                let parts' = parts_ascend before here.0 rest.0 (ap (ascends_after before) same ∙ up) in
                let more = read_whole f (last_of before here.0) blocks rest.0 rest.1 parts'.1 in (
                  entries_step f before b blocks here.0 here.1 parts'.0 ∙ ap (λ (es : List Entry). here.0 ++ es) more.0 ∙ same,
                  misfit_step f before b blocks here.0 here.1 parts'.0 ∙ more.1,
                )
          ]
    ]
