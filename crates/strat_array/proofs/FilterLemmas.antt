-- Filters of the keys that are pushed into an array.
use Rattle.std.proofs.Common.{◌≡◌, ◌≤◌, ◌+◌, ◌*◌, ℕ, Bool, false, List, [], ◌∷◌, ◌++◌, map, replicate, Option, None, Some, refl, sym, ap, ◌∙◌, subst, arith, length-append}
use Rattle.std.specs.List.{fold}
use Rattle.std.specs.Option.{IfSome}
use Rattle.std.proofs.lemmas.Nat.{mod_below}
use Rattle.std.proofs.Math.Nat.{div-add-mod}
use Rattle.strat_base.specs.Entries.{Entry}
use Rattle.def_crash.specs.Image.{Image}
use Rattle.strat_filter.specs.Bits.{bits_for, fnv, with_hash}
use Rattle.strat_filter.specs.Keys.{IsFilterOf}
use Rattle.strat_array.specs.Progress.{ArrayProgress}
use Rattle.strat_array.specs.Pushed.{IsPushed, IsWritten, with_key}

-- bits after one more key
after_more : (bits : List Bool) (entries : List Entry) (e : Entry)
    → fold (λ bs key. with_hash bs (fnv key)) bits (map (λ (d : Entry). d.key) (entries ++ e ∷ [])) ≡ with_hash (fold (λ bs key. with_hash bs (fnv key)) bits (map (λ (d : Entry). d.key) entries)) (fnv e.key)
after_more bits [] e = refl
after_more bits (d ∷ entries) e = after_more (with_hash bits (fnv d.key)) entries e

-- a filter of the keys of entries, after that of one more
key_added : (old new : Option (List Bool)) (entries : List Entry) (e : Entry) → new ≡ with_key old e.key → IfSome old (λ bits. IsFilterOf bits entries) → IfSome new (λ bits. IsFilterOf bits (entries ++ e ∷ []))
key_added None new entries e is of = subst (λ (o : Option (List Bool)). IfSome o (λ bits. IsFilterOf bits (entries ++ e ∷ []))) (sym is) tt
key_added (Some bits) new entries e is of = subst (λ (o : Option (List Bool)). IfSome o (λ bits. IsFilterOf bits (entries ++ e ∷ []))) (sym is) (record {
  size = of.size;
  some = of.some;
  made = ap (λ (bs : List Bool). with_hash bs (fnv e.key)) of.made ∙ sym (after_more (replicate of.size false) entries e);
})

-- one more entry was pushed
pub pushed_more : (f g : Image) (old new : ArrayProgress) (entries : List Entry) (e : Entry) → (IsWritten f old.extents old.pending entries → IsWritten g new.extents new.pending (entries ++ e ∷ []))
    → new.count ≡ old.count + 1 → new.filter ≡ with_key old.filter e.key → IsPushed f old entries → IsPushed g new (entries ++ e ∷ [])
pushed_more f g old new entries e writes counted added pushed = record {
  stands = writes pushed.stands;
  count = (let was = pushed.count in omega (arith, was, counted, length-append entries (e ∷ [])));
  filter = key_added old.filter new.filter entries e added pushed.filter;
}

-- a filter to which nothing was added
pub none_added : (bits : List Bool) (entries : ℕ) → 1 ≤ entries → bits ≡ replicate (bits_for entries) false → IsFilterOf bits []
none_added bits entries some is = record {
  size = bits_for entries;
  some = (let parts = div-add-mod (8 * entries + 63) 64 in let low = mod_below (8 * entries + 63) 64 (omega arith) in omega (arith, some, parts, low));
  made = is;
}
