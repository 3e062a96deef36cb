-- What is wrong with the sizes of a command.
use Rattle.std.proofs.Common.{◌≡◌, ℕ, Bool, true, false, not, ◌&&◌, if◌then◌else◌, List, Option, Some, None, refl, subst}
use Rattle.std.proofs.lemmas.Bool.{and_parts, and_from}
use Rattle.strat_base.specs.Sizes.{is_key, is_value}
use Rattle.strat_model.specs.declared.replies.Refusal.{Refusal}
use Rattle.strat_model.specs.declared.replies.Refusal.TheVariants as why
use Rattle.strat_model.specs.Request.{Request, Put, Delete, Get, Clone, Scan, Info, OpenCursor, NextPairs, CloseCursor, Stat, DropVersion}
use Rattle.strat_model.specs.Spelling.{is_bound, is_limit, has_lawful_keys, has_lawful_value, has_lawful_limit, has_lawful_sizes, size_refusal, HasForm, HasUnlawfulSize, IsRefusedAs}

-- why a command is refused whose keys, value and limit pass these tests
abbrev refused_of : Bool → Bool → Bool → Option Refusal
refused_of keys value limit =
    if not keys then Some why.KeySize else if not value then Some why.ValueSize else if not limit then Some why.ScanSize else None

-- it is not, where they pass
none_refused : (keys value limit : Bool) → keys ≡ true → value ≡ true → limit ≡ true → refused_of keys value limit ≡ None
none_refused true true true k v l = refl
none_refused false value limit k v l = absurd cc
none_refused true false limit k v l = absurd cc
none_refused true true false k v l = absurd cc

-- and then alone
all_pass : (keys value limit : Bool) → refused_of keys value limit ≡ None → (keys ≡ true) × (value ≡ true) × (limit ≡ true)
all_pass true true true e = (refl, refl, refl)
all_pass false value limit e = absurd cc
all_pass true false limit e = absurd cc
all_pass true true false e = absurd cc

-- sizes that are not refused are lawful
pub unrefused_is_lawful : (request : Request) → size_refusal request ≡ None → has_lawful_sizes request ≡ true
unrefused_is_lawful (Put version key value) e = let t = all_pass (is_key key) (is_value value) true e in and_from (is_key key) (is_value value) t.0 t.1
unrefused_is_lawful (Delete version key) e = (all_pass (is_key key) true true e).0
unrefused_is_lawful (Get version key) e = (all_pass (is_key key) true true e).0
unrefused_is_lawful (Clone version) e = refl
unrefused_is_lawful (Scan version lo hi limit) e =
    let t = all_pass (is_bound lo && is_bound hi) true (is_limit limit) e in
    let b = and_parts (is_bound lo) (is_bound hi) t.0 in
    and_from (is_bound lo) (is_bound hi && is_limit limit) b.0 (and_from (is_bound hi) (is_limit limit) b.1 t.2)
unrefused_is_lawful (Info version) e = refl
unrefused_is_lawful (OpenCursor version lo hi) e = (all_pass (is_bound lo && is_bound hi) true true e).0
unrefused_is_lawful (NextPairs cursor limit) e = (all_pass true true (is_limit limit) e).2
unrefused_is_lawful (CloseCursor cursor) e = refl
unrefused_is_lawful Stat e = refl
unrefused_is_lawful (DropVersion version) e = refl

-- lawful sizes are not refused
pub lawful_is_unrefused : (request : Request) → has_lawful_sizes request ≡ true → size_refusal request ≡ None
lawful_is_unrefused (Put version key value) e = let t = and_parts (is_key key) (is_value value) e in none_refused (is_key key) (is_value value) true t.0 t.1 refl
lawful_is_unrefused (Delete version key) e = none_refused (is_key key) true true e refl refl
lawful_is_unrefused (Get version key) e = none_refused (is_key key) true true e refl refl
lawful_is_unrefused (Clone version) e = refl
lawful_is_unrefused (Scan version lo hi limit) e =
    let a = and_parts (is_bound lo) (is_bound hi && is_limit limit) e in
    let b = and_parts (is_bound hi) (is_limit limit) a.1 in
    none_refused (is_bound lo && is_bound hi) true (is_limit limit) (and_from (is_bound lo) (is_bound hi) a.0 b.0) refl b.1
lawful_is_unrefused (Info version) e = refl
lawful_is_unrefused (OpenCursor version lo hi) e = none_refused (is_bound lo && is_bound hi) true true e refl refl
lawful_is_unrefused (NextPairs cursor limit) e = none_refused true true (is_limit limit) refl refl e
lawful_is_unrefused (CloseCursor cursor) e = refl
lawful_is_unrefused Stat e = refl
lawful_is_unrefused (DropVersion version) e = refl

-- a size is refused for a key, a value or a limit
abbrev IsOfSize : Refusal → Type 0
IsOfSize why.KeySize = Unit {0}
IsOfSize why.ValueSize = Unit {0}
IsOfSize why.ScanSize = Unit {0}
IsOfSize _ = ⊥

is_of_size : (keys value limit : Bool) (cause : Refusal) → refused_of keys value limit ≡ Some cause → IsOfSize cause
is_of_size false value limit cause e = let same : why.KeySize ≡ cause = cc in subst IsOfSize same tt
is_of_size true false limit cause e = let same : why.ValueSize ≡ cause = cc in subst IsOfSize same tt
is_of_size true true false cause e = let same : why.ScanSize ≡ cause = cc in subst IsOfSize same tt
is_of_size true true true cause e = absurd cc

by_size : (body : List ℕ) (tag : ℕ) (cause : Refusal) → IsOfSize cause → HasUnlawfulSize body tag cause → IsRefusedAs body tag cause
by_size body tag why.KeySize of_size is = is
by_size body tag why.ValueSize of_size is = is
by_size body tag why.ScanSize of_size is = is
by_size body tag _ of_size is = absurd of_size

-- a body in which a size is refused is refused so
pub refused_as : (body : List ℕ) (tag : ℕ) (request : Request) (cause : Refusal) → HasForm body tag request → size_refusal request ≡ Some cause → IsRefusedAs body tag cause
refused_as body tag request cause form e =
    by_size body tag cause (is_of_size (has_lawful_keys request) (has_lawful_value request) (has_lawful_limit request) cause e)
    (record { request = request; form = form; size = e })
