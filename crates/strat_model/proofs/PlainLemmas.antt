-- One step of a pass over a plain table's pairs, cursors or versions.
use Rattle.std.proofs.Common.{◌≡◌, ℕ, zero, suc, ◌+◌, ◌-◌, ◌==◌, Bool, true, false, not, if◌then◌else◌, Option, Some, None, refl, ◌<◌, ◌≤◌, List, [], ◌∷◌, ◌++◌, length, get_or, take, drop, map, sym, ap, ◌∙◌, add-one, arith}
use Rattle.std.proofs.Math.ListN.{set as list_set}
use Rattle.std.proofs.lemmas.List.{at_drop_more, set_split, get_or_read, get_or_at, set_at, drop_more, map_more, length-map, length-take-le, append_assoc}
use Rattle.std.specs.Ordering.{match_ordering}
use Rattle.std.specs.List.{find, list_any}
use Rattle.std.specs.Option.{option_map_or}
use Rattle.std.specs.declared.cmp.Ordering.{Ordering}
use Rattle.std.specs.declared.cmp.Ordering.TheVariants as ordering
use Rattle.strat_base.specs.Order.{key_cmp}
use Rattle.strat_base.specs.Tree.{Parents, climb, parent_of}
use Rattle.strat_base.specs.declared.limits.TheConstants.{CURSORS_MAX}
use Rattle.strat_model.specs.declared.replies.Refusal.{Refusal}
use Rattle.strat_model.specs.declared.replies.Refusal.TheVariants as why
use Rattle.strat_model.specs.Pairs.{Pair, Pairs, set, unset}
use Rattle.strat_model.specs.Request.{Request, Put, Delete, Get, Clone, Scan, Info, OpenCursor, NextPairs, CloseCursor, Stat, DropVersion}
use Rattle.strat_model.specs.Table.{Table, Cursor}
use Rattle.strat_model.specs.Step.{Outcome, step, update, drop_version, has_row, is_frozen, pairs_at, page, refuses, advanced}
use Rattle.strat_model.specs.Plain.{update_refusal, drop_refusal}

-- a key's pair keeps its place when it gets another value
pub set_here : (key value : List ℕ) (pairs : Pairs) (i : ℕ) (pair : Pair) → i < length pairs → pair ≡ get_or pairs i pair
    → ordering.Equal ≡ key_cmp key pair.0
    → set key value pairs ≡ take i pairs ++ set key value (drop i pairs)
    → set key value pairs ≡ list_set pairs i ((get_or pairs i ([], [])).0, value)
set_here key value pairs i pair lt is same so_far =
    let read : pair ≡ get_or pairs i ([], []) = get_or_read pairs i pair lt is ([], []) in
    let here : Ordering → Pairs =
    λ o. match_ordering o ((key, value) ∷ pair ∷ drop (i + 1) pairs) ((pair.0, value) ∷ drop (i + 1) pairs) (pair ∷ set key value (drop (i + 1) pairs)) in
    let step : set key value (drop i pairs) ≡ (pair.0, value) ∷ drop (i + 1) pairs =
    at_drop_more (λ rest. set key value rest) pairs i pair lt
    ∙ ap (λ (p : Pair). set key value (p ∷ drop (i + 1) pairs)) (sym is) ∙ ap here (sym same) in
    so_far ∙ ap (λ rest. take i pairs ++ rest) step ∙ sym (rw (add-one i) (set_split pairs i (pair.0, value) lt))
    ∙ ap (λ (p : Pair). list_set pairs i (p.0, value)) read

-- a list of which the first items were changed, after one more was
pub map_step : {A : Type 0} (f : A → A) (old new : List A) (i : ℕ) (d : A) → i < length old → new ≡ map f (take i old) ++ drop i old
    → list_set new i (f (get_or new i d)) ≡ map f (take (i + 1) old) ++ drop (i + 1) old
map_step {A} f old new i d lt so_far =
    let front : List A = map f (take i old) in
    let y : A = get_or old i d in
    let rest : List A = drop (i + 1) old in
    let within : i ≤ length old = omega arith in
    let places : length front ≡ i = length-map (take i old) f ∙ length-take-le i old within in
    let whole : new ≡ front ++ y ∷ rest = so_far ∙ ap (λ (l : List A). front ++ l) (drop_more old i d lt) in
    let same : get_or new i d ≡ y = ap (λ (l : List A). get_or l i d) whole ∙ get_or_at front y rest d i places in
    ap (λ (z : A). list_set new i (f z)) same ∙ ap (λ (l : List A). list_set l i (f y)) whole ∙ set_at front y rest (f y) i places
    ∙ sym (append_assoc front (f y ∷ []) rest) ∙ ap (λ (l : List A). l ++ rest) (sym (map_more f old i d lt))

-- the way up from a version is one longer than that from its parent
pub climb_parent : (v step : ℕ) (parents : Parents) (at p : ℕ) → step < v → parent_of parents at ≡ Some p
    → length (climb (v - step) parents at) ≡ length (climb (v - (step + 1)) parents p) + 1
unfolding climb
climb_parent v step parents at p lt is =
    let n : ℕ = v - (step + 1) in
    let more : v - step ≡ suc n = omega arith in
    ap (λ m. length (climb m parents at)) more ∙ ap (λ o. suc (length (option_map_or (λ q. climb n parents q) o []))) is
    ∙ sym (add-one (length (climb n parents p)))

-- the way up from a root is the root alone
pub climb_root : (n : ℕ) (parents : Parents) (v : ℕ) → parent_of parents v ≡ None → length (climb n parents v) ≡ 1
unfolding climb
climb_root zero parents v is = refl
climb_root (suc n) parents v is = ap (λ o. suc (length (option_map_or (λ q. climb n parents q) o []))) is

-- no step up leads to the version alone
pub climb_nowhere : (n : ℕ) (parents : Parents) (v : ℕ) → n ≡ 0 → length (climb n parents v) ≡ 1
unfolding climb
climb_nowhere n parents v none = ap (λ m. length (climb m parents v)) none

-- of three reasons the first that is there is given
refused_so : (unknown frozen full : Bool) (t : Table) (done : Outcome) (r : Refusal)
    → (if unknown then Some why.UnknownVersion else if frozen then Some why.Frozen else if full then Some why.ChangeLimit else None) ≡ Some r
    → (if unknown then refuses t why.UnknownVersion else if frozen then refuses t why.Frozen else if full then refuses t why.ChangeLimit else done) ≡ refuses t r
refused_so true frozen full t done r is = let same : why.UnknownVersion ≡ r = cc in ap (refuses t) same
refused_so false true full t done r is = let same : why.Frozen ≡ r = cc in ap (refuses t) same
refused_so false false true t done r is = let same : why.ChangeLimit ≡ r = cc in ap (refuses t) same
refused_so false false false t done r is = absurd (cc)

-- an update that is refused is no more than the refusal
pub update_refused : (t : Table) (v : ℕ) (pairs : Pairs) (r : Refusal) → update_refusal t v ≡ Some r → update t v pairs ≡ refuses t r
update_refused t v pairs r is = refused_so (not (has_row t v)) (is_frozen t v) (t.changes == t.changes_max) t _ r is

-- of four reasons the first that is there is given
four_refused : (unknown first frozen full : Bool) (t : Table) (done : Outcome) (r : Refusal)
    → (if unknown then Some why.UnknownVersion else if first then Some why.Root else if frozen then Some why.Frozen else if full then Some why.ChangeLimit else None) ≡ Some r
    → (if unknown then refuses t why.UnknownVersion else if first then refuses t why.Root else if frozen then refuses t why.Frozen else if full then refuses t why.ChangeLimit else done)
    ≡ refuses t r
four_refused true first frozen full t done r is = let same : why.UnknownVersion ≡ r = cc in ap (refuses t) same
four_refused false true frozen full t done r is = let same : why.Root ≡ r = cc in ap (refuses t) same
four_refused false false frozen full t done r is = refused_so false frozen full t done r is

-- a drop that is refused is no more than the refusal
pub drop_refused : (t : Table) (v : ℕ) (r : Refusal) → drop_refusal t v ≡ Some r → drop_version t v ≡ refuses t r
drop_refused t v r is = four_refused (not (has_row t v)) (v == 0) (is_frozen t v) (t.changes == t.changes_max) t _ r is

-- what holds of both sides holds of the one that is chosen
either : {A : Type 0} (P : A → Type 0) (b : Bool) (x y : A) → P x → P y → P (if b then x else y)
either P true x y at_x at_y = at_x
either P false x y at_x at_y = at_y

-- an outcome opens one cursor at most
abbrev OpensOne : Table → Outcome → Type 0
OpensOne t outcome = outcome.table.next_cursor ≤ t.next_cursor + 1

-- an update opens none
opens_by_update : (t : Table) (v : ℕ) (pairs : Pairs) → OpensOne t (update t v pairs)
opens_by_update t v pairs =
    either (OpensOne t) (not (has_row t v)) _ _ (omega arith)
    (either (OpensOne t) (is_frozen t v) _ _ (omega arith) (either (OpensOne t) (t.changes == t.changes_max) _ _ (omega arith) (omega arith)))

-- the next pairs of a cursor open none
opens_by_next : (t : Table) (n limit : ℕ) (found : Option Cursor)
    → OpensOne t (option_map_or (λ c. record { answer = page c.left limit; table = record t { cursors = advanced t.cursors n limit } }) found (refuses t why.UnknownCursor))
opens_by_next t n limit None = omega arith
opens_by_next t n limit (Some c) = omega arith

-- a step opens one cursor at most
pub next_cursor_after : (t : Table) (request : Request) → (step t request).table.next_cursor ≤ t.next_cursor + 1
next_cursor_after t (Put v key value) = opens_by_update t v (set key value (pairs_at t v))
next_cursor_after t (Delete v key) = opens_by_update t v (unset key (pairs_at t v))
next_cursor_after t (Get v key) = either (OpensOne t) (has_row t v) _ _ (omega arith) (omega arith)
next_cursor_after t (Clone v) =
    either (OpensOne t) (not (has_row t v)) _ _ (omega arith)
    (either (OpensOne t) (length t.rows == t.versions_max) _ _ (omega arith) (either (OpensOne t) (t.changes == t.changes_max) _ _ (omega arith) (omega arith)))
next_cursor_after t (Scan v lo hi limit) = either (OpensOne t) (has_row t v) _ _ (omega arith) (omega arith)
next_cursor_after t (Info v) = either (OpensOne t) (has_row t v) _ _ (omega arith) (omega arith)
next_cursor_after t (OpenCursor v lo hi) =
    either (OpensOne t) (not (has_row t v)) _ _ (omega arith) (either (OpensOne t) (length t.cursors == CURSORS_MAX) _ _ (omega arith) (omega arith))
next_cursor_after t (NextPairs n limit) = opens_by_next t n limit (find (λ c. c.number == n) t.cursors)
next_cursor_after t (CloseCursor n) = either (OpensOne t) (list_any (λ c. c.number == n) t.cursors) _ _ (omega arith) (omega arith)
next_cursor_after t Stat = omega arith
next_cursor_after t (DropVersion v) =
    either (OpensOne t) (not (has_row t v)) _ _ (omega arith)
    (either (OpensOne t) (v == 0) _ _ (omega arith)
    (either (OpensOne t) (is_frozen t v) _ _ (omega arith) (either (OpensOne t) (t.changes == t.changes_max) _ _ (omega arith) (omega arith))))
