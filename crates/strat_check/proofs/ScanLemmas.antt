-- Blocks of an array that are looked at one after another.
use Rattle.std.proofs.Common.{◌≡◌, ◌<◌, ◌≤◌, ◌+◌, nat_lt, ℕ, true, false, cond, ◌&&◌, List, [], ◌∷◌, ◌++◌, length, take, get_or, Option, Some, None, refl, sym, ap, ◌∙◌, subst, arith, append_assoc, append-nil, length-append}
use Rattle.std.specs.Prelude.{is_none, option_map}
use Rattle.std.specs.List.{Contains}
use Rattle.std.proofs.lemmas.List.Folds.{list_all-append, list_all_more, list_all_at}
use Rattle.std.proofs.lemmas.Bool.{and_parts, and_from, lt-ltb, le-ltb}
use Rattle.strat_base.specs.Entries.{Entry, is_ascending}
use Rattle.def_crash.specs.Image.{Image}
use Rattle.def_bytes.specs.Arrays.{block_on, entries_on}
use Rattle.strat_array.proofs.EntriesOnLemmas.{entries_on-append, entries_on-one}
use Rattle.def_split.proofs.ListLemmas.{bool_same}
use Rattle.strat_promote.specs.Leads.{comes_after, last_of}
use Rattle.std.specs.Prelude.{IfSome}
use Rattle.strat_array.specs.Kept.{Kept}
use Rattle.strat_promote.specs.LeadRuns.{key_alone, entries_at_hand}
use Rattle.strat_promote.proofs.LeadLemmas.{ascends_after, ascends_on, ascends_both, parts_ascend, block_ascends, comes_after_key, last_same, one_read, front_trans, front_contains}
use Rattle.def_crash.specs.Faults.{ReadsAtMost}
use Rattle.strat_merge.specs.Runs.{ReadsFront}
use Rattle.def_recovery.proofs.OpeningLemmas.{map_some, next_some}
use Rattle.strat_check.specs.Scanned.{IsScanned, ComesBehind, first_empty, have_low_versions}
use Rattle.strat_check.specs.declared.scan.Scan.{Scan}

-- entries and others that ascend, joined, ascend where the others come after the last of them
joined : (xs ys : List Entry) → is_ascending ys ≡ true → is_ascending (xs ++ ys) ≡ (is_ascending xs && comes_after (last_of None xs) ys)
joined xs ys up = bool_same (is_ascending (xs ++ ys)) (is_ascending xs && comes_after (last_of None xs) ys) to back
  where
    after_ascends : (before : Option Entry) (zs : List Entry) → ascends_after before zs ≡ true → is_ascending zs ≡ true
    after_ascends None zs h = h
    after_ascends (Some e) zs h = (and_parts _ (is_ascending zs) h).1

    comes : (before : Option Entry) (zs : List Entry) → ascends_after before zs ≡ true → comes_after before zs ≡ true
    comes None zs h = refl
    comes (Some e) [] h = refl
    comes (Some e) (z ∷ zs) h = (and_parts _ _ (and_parts _ (is_ascending (z ∷ zs)) h).0).0

    to : is_ascending (xs ++ ys) ≡ true → (is_ascending xs && comes_after (last_of None xs) ys) ≡ true
    to whole =
        let parts = split None xs whole in
        and_from (is_ascending xs) (comes_after (last_of None xs) ys) parts.0 (comes (last_of None xs) ys parts.1)
      where
        split : (before : Option Entry) (zs : List Entry) → ascends_after before (zs ++ ys) ≡ true → (is_ascending zs ≡ true) × (ascends_after (last_of before zs) ys ≡ true)
        split before zs h = (first before zs h, (parts_ascend before zs ys h).1)
          where
            first : (before : Option Entry) (zs : List Entry) → ascends_after before (zs ++ ys) ≡ true → is_ascending zs ≡ true
            first before zs h = front zs (after_ascends before (zs ++ ys) h)
              where
                front : (zs : List Entry) → is_ascending (zs ++ ys) ≡ true → is_ascending zs ≡ true
                front [] h = refl
                front (z ∷ []) h = refl
                front (z ∷ d ∷ zs) h =
                    let p = parts_ascend (Some z) (d ∷ zs) ys h in
                    ascends_on (Some z) (d ∷ zs) p.0 (front (d ∷ zs) (and_parts _ (is_ascending (d ∷ (zs ++ ys))) h).1)

    back : (is_ascending xs && comes_after (last_of None xs) ys) ≡ true → is_ascending (xs ++ ys) ≡ true
    back both =
        let parts = and_parts (is_ascending xs) (comes_after (last_of None xs) ys) both in
        ascends_both None xs ys parts.0 (ascends_on (last_of None xs) ys parts.1 up)

last_joined : (before : Option Entry) (xs ys : List Entry) → 0 < length ys → last_of before (xs ++ ys) ≡ last_of None ys
last_joined before [] ys some = last_same before ys some
last_joined before (x ∷ xs) ys some = last_joined (Some x) xs ys some

-- where each of these blocks holds entries, the first that holds none is behind them
passed : (c : Image) (front back : List ℕ) (entries : List Entry) → entries_on c front ≡ Some entries → first_empty c (front ++ back) ≡ first_empty c back
unfolding entries_on
passed c [] back entries e = refl
passed c (b ∷ front) back entries e =
    let first = next_some (λ xs. option_map (λ rest. xs ++ rest) (entries_on c front)) (block_on c b) entries e in
    let rest = map_some (λ rest. first.0 ++ rest) (entries_on c front) entries first.2 in
    ap (λ (o : Option (List Entry)). cond (is_none o) (Some b) (first_empty c (front ++ back))) first.1 ∙ passed c front back rest.0 rest.1

nothing_on : (c : Image) → entries_on c [] ≡ Some []
unfolding entries_on
nothing_on c = refl

-- on a disk that exposes its content, what was told of some blocks
pub record Scanning (c : Image) (all left : List ℕ) (n : ℕ) (last : Option Entry) (s : Scan) : Type 0 where
  pub front : List ℕ
  pub entries : List Entry
  pub split : all ≡ front ++ left
  pub read : entries_on c front ≡ Some entries
  pub ascends : s.ascends ≡ is_ascending entries
  pub counted : s.entries ≡ length entries
  pub within : s.is_within ≡ have_low_versions n entries
  pub ends : last ≡ key_alone (last_of None entries)

pub scan_begins : (c : Image) (all left : List ℕ) (n : ℕ) (last : Option Entry) → left ≡ all → last ≡ None → Scanning c all left n last (record { ascends = true; entries = 0; is_within = true })
scan_begins c all left n last same none =
    record { front = []; entries = []; split = sym same; read = nothing_on c; ascends = refl; counted = refl; within = refl; ends = none }

pub scan_goes_on : (c : Image) (all left rest : List ℕ) (b n : ℕ) (last now : Option Entry) (before block after : Scan) → Scanning c all left n last before → left ≡ b ∷ rest → ComesBehind c b n last now block
    → (after.ascends ≡ (before.ascends && block.ascends)) × (after.is_within ≡ (before.is_within && block.is_within)) → after.entries ≡ before.entries + block.entries
    → Scanning c all rest n now after
scan_goes_on c all left rest b n last now before block after s next behind both sum =
    let is = block_ascends c b behind.entries behind.here in
    record {
      front = s.front ++ b ∷ [];
      entries = s.entries ++ behind.entries;
      split = s.split ∙ ap (λ (bs : List ℕ). s.front ++ bs) next ∙ sym (append_assoc s.front (b ∷ []) rest);
      read = entries_on-append c s.front (b ∷ []) s.entries behind.entries s.read (entries_on-one c b behind.entries behind.here);
      ascends =
          both.0
          ∙ (λ i. s.ascends i && (behind.after ∙ ap (λ (o : Option Entry). comes_after o behind.entries) s.ends ∙ comes_after_key (last_of None s.entries) behind.entries) i)
          ∙ sym (joined s.entries behind.entries is.ascending);
      counted = sum ∙ (λ i. s.counted i + behind.counted i) ∙ sym (length-append s.entries behind.entries);
      within = both.1 ∙ (λ i. s.within i && behind.within i) ∙ sym (list_all-append (λ (e : Entry). nat_lt e.version n) s.entries behind.entries);
      ends = behind.last ∙ ap (λ (o : Option Entry). key_alone o) (sym (last_joined None s.entries behind.entries is.some));
    }

pub scan_ends : (c : Image) (all left : List ℕ) (n : ℕ) (last : Option Entry) (s : Scan) → Scanning c all left n last s → left ≡ [] → IsScanned c all n s
scan_ends c all left n last s scan none = record {
  entries = scan.entries;
  read = ap (λ (bs : List ℕ). entries_on c bs) (scan.split ∙ ap (λ (bs : List ℕ). scan.front ++ bs) none ∙ append-nil scan.front) ∙ scan.read;
  ascends = scan.ascends;
  counted = scan.counted;
  within = scan.within;
}

pub scan_blames : (c : Image) (all left rest : List ℕ) (b n : ℕ) (last : Option Entry) (s : Scan) → Scanning c all left n last s → left ≡ b ∷ rest → block_on c b ≡ None → first_empty c all ≡ Some b
scan_blames c all left rest b n last s scan next none =
    ap (λ (bs : List ℕ). first_empty c bs) scan.split ∙ passed c scan.front left scan.entries scan.read ∙ ap (λ (bs : List ℕ). first_empty c bs) next
    ∙ ap (λ (o : Option (List Entry)). cond (is_none o) (Some b) (first_empty c rest)) none

pub front_step : (all left rest : List ℕ) (b p q r : ℕ) → ReadsFront all left p q → left ≡ b ∷ rest → ReadsAtMost 1 q r → ReadsFront all rest p r
front_step all left rest b p q r first next reads = front_trans all left rest p q r first (subst (λ (l : List ℕ). ReadsFront l rest q r) (sym next) (one_read b rest q r reads))

pub front_has : (all left rest : List ℕ) (b d p q : ℕ) → ReadsFront all left p q → left ≡ b ∷ rest → d ≡ b → Contains all d
front_has all left rest b d p q first next same =
    front_contains all left p q d first (subst (λ (l : List ℕ). Contains l d) (sym next) (0, omega arith, sym same))

-- an entry of the block that a scratch holds
pub held_at : (held : Option Kept) (i : ℕ) (e : Entry) → i < length (entries_at_hand held) → IfSome held (λ kept. (d : Entry) → e ≡ get_or kept.1 i d) → (d : Entry) → e ≡ get_or (entries_at_hand held) i d
held_at None i e lt there d = absurd (omega arith)
held_at (Some kept) i e lt there d = there d

module _ (n : ℕ) (entries : List Entry) (i : ℕ) (e : Entry) (lt : i < length entries) (is : (d : Entry) → e ≡ get_or entries i d) where
  pub one_more_low : e.version < n → have_low_versions n (take i entries) ≡ true → have_low_versions n (take (i + 1) entries) ≡ true
  one_more_low low before =
      list_all_more (λ (d : Entry). nat_lt d.version n) entries i e lt
      ∙ and_from (have_low_versions n (take i entries)) (nat_lt (get_or entries i e).version n) before (ap (λ (d : Entry). nat_lt d.version n) (sym (is e)) ∙ lt-ltb e.version n low)

  pub one_high : n ≤ e.version → have_low_versions n entries ≡ false
  one_high high = list_all_at (λ (d : Entry). nat_lt d.version n) entries i e lt (ap (λ (d : Entry). nat_lt d.version n) (sym (is e)) ∙ le-ltb e.version n high)
