-- A walk over the records of changes.
use Rattle.std.proofs.Common.{◌≡◌, ◌≤◌, ◌<◌, ◌+◌, ℕ, zero, suc, true, List, [], ◌∷◌, ◌++◌, Option, Some, None, length, take, drop, refl, sym, ap, ◌∙◌, subst, append-nil, append_assoc, take-append-drop, length-append, length-drop, arith}
use Rattle.std.specs.Prelude.{IfSome, option_map}
use Rattle.std.specs.List.{list_all}
use Rattle.std.proofs.lemmas.Bool.{and_parts}
use Rattle.std.proofs.lemmas.List.Folds.{list_all-append}
use Rattle.std.proofs.lemmas.List.{drop-drop, drop_at, take_all}
use Rattle.strat_base.specs.Change.{BeginsWithChange, Change, change_at, change_bytes, change_in, is_lawful}
use Rattle.strat_base.specs.ChangeView.{change_of}
use Rattle.strat_base.specs.Finds.{Finds}
use Rattle.strat_base.specs.declared.changes.Change.{Change as Borrowed}
use Rattle.strat_base.proofs.ChangeLemmas.{change_in-bytes}
use Rattle.def_bytes.specs.Records.{records_bytes}
use Rattle.strat_io.specs.Streams.{Appends}
use Rattle.strat_loop.specs.Session.{SendsPrefix}
use Rattle.strat_follow.specs.Leads.{change_frames}
use Rattle.strat_follow.specs.Walking.{ArePutTogether, FindsRecord}
use Rattle.strat_follow.proofs.LeadLemmas.{appends_then}
use Rattle.strat_follow.proofs.MadeLemmas.{frames_then}

-- a change that stands at the front of what is behind an offset ends within the bytes
ends_within : (bytes : List ℕ) (at : ℕ) (c : Change) → at ≤ length bytes → BeginsWithChange (drop at bytes) c → at + length (change_bytes c) ≤ length bytes
ends_within bytes at c within begins = omega (arith, within, length-drop at bytes, ap length begins.split, length-append (change_bytes c) begins.rest)

pub record_within : (bytes : List ℕ) (at : ℕ) (r : Option (Borrowed × ℕ)) → at ≤ length bytes → IfSome r (λ x. BeginsWithChange (drop at bytes) (change_of x.0)) → IfSome r (λ x. x.1 ≡ at + length (change_bytes (change_of x.0)))
    → IfSome r (λ x. x.1 ≤ length bytes)
record_within bytes at None within starts ends = tt
record_within bytes at (Some x) within starts ends = omega (arith, ends, ends_within bytes at (change_of x.0) within starts)

-- behind the last record there is none
pub none_behind : (bytes : List ℕ) (c : Change) (rest : List Change) → drop (length bytes) bytes ≡ records_bytes (c ∷ rest) → ⊥
none_behind bytes c rest e = absurd (omega (arith, length-drop (length bytes) bytes, ap length e))

-- what stands behind the flag of a record
behind_flag : (bytes : List ℕ) (at : ℕ) (c : Change) (rest : List Change) → drop at bytes ≡ records_bytes (c ∷ rest) → drop (at + 1) bytes ≡ change_bytes c ++ records_bytes rest
behind_flag bytes at c rest e = sym (drop-drop 1 at bytes) ∙ ap (drop 1) e

pub found_record : (bytes : List ℕ) (at : ℕ) (result : Option (Borrowed × ℕ)) (c : Change) (rest : List Change) → drop at bytes ≡ records_bytes (c ∷ rest) → is_lawful c ≡ true
    → Finds (λ r. (change_of r.0, r.1)) result (change_at bytes (at + 1)) → FindsRecord bytes result c rest
found_record bytes at result c rest e lawful finds = go result finds
  where
    read : change_at bytes (at + 1) ≡ Some (c, at + 1 + length (change_bytes c))
    read =
        ap (λ (x : List ℕ). option_map (λ (d : Change). (d, at + 1 + length (change_bytes d))) (change_in x)) (behind_flag bytes at c rest e)
        ∙ ap (option_map (λ (d : Change). (d, at + 1 + length (change_bytes d)))) (change_in-bytes c (records_bytes rest) lawful)

    behind : drop (at + 1 + length (change_bytes c)) bytes ≡ records_bytes rest
    behind =
        sym (drop-drop (length (change_bytes c)) (at + 1) bytes) ∙ ap (drop (length (change_bytes c))) (behind_flag bytes at c rest e)
        ∙ drop_at (change_bytes c) (records_bytes rest) (length (change_bytes c)) refl

    go : (r : Option (Borrowed × ℕ)) → Finds (λ r. (change_of r.0, r.1)) r (change_at bytes (at + 1)) → FindsRecord bytes r c rest
    go None none = absurd (let f : ◌≡◌ {A = Option (Change × ℕ)} (Some (c, at + 1 + length (change_bytes c))) None = sym read ∙ none in cc)
    go (Some r) some =
        let both : ◌≡◌ {A = Option (Change × ℕ)} (Some (c, at + 1 + length (change_bytes c))) (Some (change_of r.0, r.1)) = sym read ∙ some in
        let same : ◌≡◌ {A = Change × ℕ} (c, at + 1 + length (change_bytes c)) (change_of r.0, r.1) = cc in
        (sym (ap (λ (p : Change × ℕ). p.0) same), ap (λ (n : ℕ). drop n bytes) (sym (ap (λ (p : Change × ℕ). p.1) same)) ∙ behind)

-- the changes of a list up to a place were sent, and the records of the others stand behind an offset
pub record IsWalked (bytes : List ℕ) (list : List Change) (first i at : ℕ) (before now : Option (List ℕ)) : Type 0 where
  pub split : drop at bytes ≡ records_bytes (drop i list)
  pub sent : Appends before now (change_frames first (take i list))

-- a list has an element at a place, and the others behind it
record HasAt (list : List Change) (i : ℕ) : Type 0 where
  one : Change
  is : drop i list ≡ one ∷ drop (suc i) list
  more : take (suc i) list ≡ take i list ++ one ∷ []
  lawful : is_lawful one ≡ true
  front : length (take i list) ≡ i

has_at : (list : List Change) (i : ℕ) → list_all is_lawful list ≡ true → i < length list → HasAt list i
has_at [] i lawful within = absurd (omega (arith, within))
has_at (c ∷ list) zero lawful within = record { one = c; is = refl; more = refl; lawful = (and_parts (is_lawful c) (list_all is_lawful list) lawful).0; front = refl }
has_at (c ∷ list) (suc i) lawful within =
    let rest = has_at list i (and_parts (is_lawful c) (list_all is_lawful list) lawful).1 (omega (arith, within)) in
    record { one = rest.one; is = rest.is; more = ap (λ (l : List Change). c ∷ l) rest.more; lawful = rest.lawful; front = ap suc rest.front }

nothing_more : (held : Option (List ℕ)) → Appends held held []
nothing_more held = record { exposed = λ bytes e. e ∙ ap (λ (x : List ℕ). Some x) (sym (append-nil bytes)); hidden = λ e. e }

module _ (bytes : List ℕ) (list : List Change) (first count : ℕ) (are : ArePutTogether bytes count list) (before : Option (List ℕ)) where
  pub walk_begins : IsWalked bytes list first 0 0 before before
  walk_begins = record { split = are.text; sent = nothing_more before }

  -- where there is one more, it is found
  pub walk_finds : (i at : ℕ) (now : Option (List ℕ)) (result : Option (Borrowed × ℕ)) → IsWalked bytes list first i at before now → i < count
      → ((c : Change) (rest : List Change) → drop at bytes ≡ records_bytes (c ∷ rest) → is_lawful c ≡ true → FindsRecord bytes result c rest)
      → (c : Change) × (drop i list ≡ c ∷ drop (suc i) list) × FindsRecord bytes result c (drop (suc i) list)
  walk_finds i at now result walked within finds =
      let has = has_at list i are.lawful (omega (arith, within, are.number)) in
      (has.one, has.is, finds has.one (drop (suc i) list) (walked.split ∙ ap records_bytes has.is) has.lawful)

  -- one more was sent
  pub walk_more : (i at : ℕ) (mid now : Option (List ℕ)) (r : Borrowed × ℕ) → IsWalked bytes list first i at before mid → i < count
      → ((c : Change) (rest : List Change) → drop at bytes ≡ records_bytes (c ∷ rest) → is_lawful c ≡ true → FindsRecord bytes (Some r) c rest)
      → Appends mid now (change_frames (first + i) (change_of r.0 ∷ [])) → IsWalked bytes list first (i + 1) r.1 before now
  walk_more i at mid now r walked within finds sent =
      let has = has_at list i are.lawful (omega (arith, within, are.number)) in
      let found = finds has.one (drop (suc i) list) (walked.split ∙ ap records_bytes has.is) has.lawful in
      let frames : change_frames first (take (suc i) list) ≡ change_frames first (take i list) ++ change_frames (first + i) (change_of r.0 ∷ []) =
      ap (change_frames first) has.more ∙ frames_then first (take i list) (has.one ∷ [])
      ∙ (λ k. change_frames first (take i list) ++ change_frames (first + has.front k) (sym found.0 k ∷ [])) in
      let next : suc i ≡ i + 1 = omega arith in
      subst (λ (n : ℕ). IsWalked bytes list first n r.1 before now) next (record {
        split = found.1;
        sent = subst (Appends before now) (sym frames) (appends_then before mid now (change_frames first (take i list)) (change_frames (first + i) (change_of r.0 ∷ [])) walked.sent sent);
      })

  -- or a part of it, and the others were not
  pub walk_cut : (i at : ℕ) (mid now : Option (List ℕ)) (r : Borrowed × ℕ) → IsWalked bytes list first i at before mid → i < count
      → ((c : Change) (rest : List Change) → drop at bytes ≡ records_bytes (c ∷ rest) → is_lawful c ≡ true → FindsRecord bytes (Some r) c rest)
      → SendsPrefix mid now (change_frames (first + i) (change_of r.0 ∷ [])) → SendsPrefix before now (change_frames first list)
  walk_cut i at mid now r walked within finds cut =
      let has = has_at list i are.lawful (omega (arith, within, are.number)) in
      let found = finds has.one (drop (suc i) list) (walked.split ∙ ap records_bytes has.is) has.lawful in
      let frames : change_frames first (take (suc i) list) ≡ change_frames first (take i list) ++ change_frames (first + i) (change_of r.0 ∷ []) =
      ap (change_frames first) has.more ∙ frames_then first (take i list) (has.one ∷ [])
      ∙ (λ k. change_frames first (take i list) ++ change_frames (first + has.front k) (sym found.0 k ∷ [])) in
      let later : List ℕ = change_frames (first + length (take (suc i) list)) (drop (suc i) list) in
      record {
        sent = change_frames first (take i list) ++ cut.sent;
        later = cut.later ++ later;
        parts =
            ap (change_frames first) (sym (split_at list (suc i))) ∙ frames_then first (take (suc i) list) (drop (suc i) list)
            ∙ ap (λ (x : List ℕ). x ++ later) (frames ∙ ap (λ (x : List ℕ). change_frames first (take i list) ++ x) cut.parts)
            ∙ regroup (change_frames first (take i list)) cut.sent cut.later later;
        some = omega (arith, cut.some, length-append cut.later later);
        appends = appends_then before mid now (change_frames first (take i list)) cut.sent walked.sent cut.appends;
      }
    where
      split_at : (xs : List Change) (n : ℕ) → take n xs ++ drop n xs ≡ xs
      split_at [] zero = refl
      split_at [] (suc n) = refl
      split_at (x ∷ xs) zero = refl
      split_at (x ∷ xs) (suc n) = ap (λ (l : List Change). x ∷ l) (split_at xs n)

      regroup : (a b c d : List ℕ) → (a ++ (b ++ c)) ++ d ≡ (a ++ b) ++ (c ++ d)
      regroup a b c d = simp append_assoc

  -- and at the end all were
  pub walk_ends : (at : ℕ) (now : Option (List ℕ)) → IsWalked bytes list first count at before now → Appends before now (change_frames first list)
  walk_ends at now walked = subst (λ (l : List Change). Appends before now (change_frames first l)) (take_all count list (omega (arith, are.number))) walked.sent

-- the records of a journal, region by region
module _ (list : List Change) (mem first : ℕ) (before mid now : Option (List ℕ)) where
  abbrev front : List Change
  front = take mem list

  abbrev behind : List Change
  behind = drop mem list

  whole : change_frames first front ++ change_frames (first + length front) behind ≡ change_frames first list
  whole = sym (frames_then first front behind) ∙ ap (change_frames first) (take-append-drop mem list)

  pub both_sent : Appends before mid (change_frames first front) → Appends mid now (change_frames (first + length front) behind) → Appends before now (change_frames first list)
  both_sent one other = subst (Appends before now) whole (appends_then before mid now (change_frames first front) (change_frames (first + length front) behind) one other)

  -- the sink failed at those of the first region, or of the second
  pub front_cut : SendsPrefix before now (change_frames first front) → SendsPrefix before now (change_frames first list)
  front_cut cut = record {
    sent = cut.sent;
    later = cut.later ++ change_frames (first + length front) behind;
    parts = sym whole ∙ ap (λ (x : List ℕ). x ++ change_frames (first + length front) behind) cut.parts ∙ append_assoc cut.sent cut.later (change_frames (first + length front) behind);
    some = omega (arith, cut.some, length-append cut.later (change_frames (first + length front) behind));
    appends = cut.appends;
  }

  pub behind_cut : Appends before mid (change_frames first front) → SendsPrefix mid now (change_frames (first + length front) behind) → SendsPrefix before now (change_frames first list)
  behind_cut one cut = record {
    sent = change_frames first front ++ cut.sent;
    later = cut.later;
    parts = sym whole ∙ ap (λ (x : List ℕ). change_frames first front ++ x) cut.parts ∙ sym (append_assoc (change_frames first front) cut.sent cut.later);
    some = cut.some;
    appends = appends_then before mid now (change_frames first front) cut.sent one cut.appends;
  }

  pub lawful_both : list_all is_lawful list ≡ true → (list_all is_lawful front ≡ true) × (list_all is_lawful behind ≡ true)
  lawful_both all = and_parts (list_all is_lawful front) (list_all is_lawful behind) (sym (list_all-append is_lawful front behind) ∙ ap (list_all is_lawful) (take-append-drop mem list) ∙ all)

-- the same, numbered from where those of the manifest end
module _ (list : List Change) (mem first active base : ℕ) (begins : first ≡ base) (counts : active ≡ length (take mem list)) (before mid now : Option (List ℕ)) where
  pub journal_sent : Appends before mid (change_frames first (take mem list)) → Appends mid now (change_frames (first + active) (drop mem list)) → Appends before now (change_frames base list)
  journal_sent one other =
      subst (λ (n : ℕ). Appends before now (change_frames n list)) begins
      (both_sent list mem first before mid now one (subst (λ (n : ℕ). Appends mid now (change_frames (first + n) (drop mem list))) counts other))

  pub journal_cut : SendsPrefix before now (change_frames first (take mem list)) → SendsPrefix before now (change_frames base list)
  journal_cut cut = subst (λ (n : ℕ). SendsPrefix before now (change_frames n list)) begins (front_cut list mem first before mid now cut)

  pub journal_cut_behind : Appends before mid (change_frames first (take mem list)) → SendsPrefix mid now (change_frames (first + active) (drop mem list)) → SendsPrefix before now (change_frames base list)
  journal_cut_behind one cut =
      subst (λ (n : ℕ). SendsPrefix before now (change_frames n list)) begins
      (behind_cut list mem first before mid now one (subst (λ (n : ℕ). SendsPrefix mid now (change_frames (first + n) (drop mem list))) counts cut))
