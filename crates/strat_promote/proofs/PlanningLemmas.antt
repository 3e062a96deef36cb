-- Arrays that are begun one after another.
use Rattle.std.proofs.Common.{◌≡◌, ◌+◌, ℕ, zero, suc, inl, inr, ◌⊎◌, List, [], ◌∷◌, ◌++◌, Bool, length, Option, None, Some, Result, Ok, Err, OnOk, OnErr, refl, sym, ap, ◌∙◌, subst}
use Rattle.std.specs.List.{slice_get}
use Rattle.strat_array.specs.Progress.{ArrayProgress}
use Rattle.strat_array.specs.Pushed.{IsPushed}
use Rattle.def_bytes.specs.Arrays.{entries_on}
use Rattle.def_crash.specs.Image.{Image}
use Rattle.strat_promote.specs.Planning.{AreNew, IsNew}

-- an item of a list with one more is one of the list, or the one
pub at_push : {X : Type 0} (xs : List X) (x : X) (q : ℕ) (y : X) → slice_get (xs ++ x ∷ []) q ≡ Some y → (slice_get xs q ≡ Some y) ⊎ ((q ≡ length xs) × (x ≡ y))
at_push [] x zero y e = inr (refl, (let same : x ≡ y = cc in same))
at_push [] x (suc q) y e = absurd (cc)
at_push (z ∷ xs) x zero y e = inl e
at_push (z ∷ xs) x (suc q) y e =
    elim (at_push xs x q y e) [
      | inl there ↦ inl there
      | inr last ↦ inr (ap suc last.0, last.1)
    ]

pub none_new : (first : ℕ) → AreNew first []
none_new first = record { each = λ q w e. absurd (cc) }

pub new_more : (first n : ℕ) (ws : List ArrayProgress) (w : ArrayProgress) → length ws ≡ n → AreNew first ws → IsNew (first + n) w → AreNew first (ws ++ w ∷ [])
new_more first n ws w len new is = record {
  each = λ q x e.
      elim (at_push ws w q x e) [
        | inl there ↦ new.each q x there
        | inr last ↦
            let same : n ≡ q = sym len ∙ sym last.0 in
            subst (λ (y : ArrayProgress). IsNew (first + q) y) last.1 (subst (λ (k : ℕ). IsNew (first + k) w) same is)
      ];
}

-- nothing was pushed into a writer that is begun
begun_pushed : (f : Image) (id : ℕ) → IsPushed f (record { id = id; count = 0; pending = []; extents = []; filter = None }) []
unfolding entries_on
begun_pushed f id = record { stands = record { written = []; read = refl; all = refl }; count = refl; filter = tt }

-- it is new
pub one_new : (id : ℕ) (w : ArrayProgress) → w ≡ record { id = id; count = 0; pending = []; extents = []; filter = None } → IsNew id w
one_new id w is = subst (λ (x : ArrayProgress). IsNew id x) (sym is) (record { same = refl; pushed = λ f. begun_pushed f id })

-- it stays so where it keeps a filter, and where there was no memory for one
pub kept_new : {T E : Type 0} (r : Result T E) (id : ℕ) (old new : ArrayProgress) (bits : List Bool) → OnOk r (new ≡ record old { filter = Some bits }) → OnErr r (new ≡ old)
    → ((f : Image) → IsPushed f old [] → OnOk r (IsPushed f new [])) → IsNew id old → IsNew id new
kept_new (Ok x) id old new bits is same pushed begun = record {
  same =
      is ∙ ap (λ (w : ArrayProgress). record w { filter = Some bits }) begun.same
      ∙ ap (λ (filter : Option (List Bool)). record { id = id; count = 0; pending = []; extents = []; filter = filter }) (sym (ap (λ (w : ArrayProgress). w.filter) is));
  pushed = λ f. pushed f (begun.pushed f);
}
kept_new (Err e) id old new bits is same pushed begun = subst (λ (w : ArrayProgress). IsNew id w) (sym same) begun
