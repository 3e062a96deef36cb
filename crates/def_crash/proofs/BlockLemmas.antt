-- How calls compose that change free blocks alone.
use Rattle.std.proofs.Common.{◌≡◌, ◌+◌, ◌*◌, ℕ, Bool, true, false, inl, inr, List, length, Option, Some, None, Ok, Err, Result, OnOk, OnErr, IsSome, refl, sym, ◌∙◌, subst, arith, true≢false}
use Rattle.std.specs.Option.{IsSomeAnd}
use Rattle.std.proofs.lemmas.Bool.{cases_lt}
use Rattle.def_crash.specs.Image.{Image, Outside, patch}
use Rattle.def_crash.specs.Moments.{DiskView, Exposes, Images, Passes, TearsOnly, OnlyReads, Writes, Garbles}
use Rattle.def_crash.specs.Blocks.{KeepsBlock, KeepsTaken, TearsBlocks}
use Rattle.def_crash.proofs.ImageLemmas.{outside_patch}
use Rattle.def_crash.proofs.MomentLemmas.{since_now, now_since_start, each_then, passes_refl, passes_trans, at_told}

-- a content that is exposed is one
pub exposed_once : (v : DiskView) (f g : Image) → Exposes v f → Exposes v g → f ≡ g
exposed_once v f g a b = let e : Some f ≡ Some g = sym a ∙ b in cc

pub keeps_refl : (b : ℕ) (f : Image) → KeepsBlock b f f
keeps_refl b f = record { byte = λ i from to. refl }

pub keeps_trans : (b : ℕ) (f g h : Image) → KeepsBlock b f g → KeepsBlock b g h → KeepsBlock b f h
keeps_trans b f g h first second = record { byte = λ i from to. second.byte i from to ∙ first.byte i from to }

-- a disk that nothing changed
pub blocks_refl : (free : ℕ → Bool) (v : DiskView) → TearsBlocks free v v
blocks_refl free v = record {
  images = λ c since. (c, since_now v c since, λ b taken. keeps_refl b c);
  content = λ f g told now b taken. subst (KeepsBlock b f) (exposed_once v f g told now) (keeps_refl b f);
  time = passes_refl v;
}

-- one call and another
pub blocks_trans : (free : ℕ → Bool) (old mid new : DiskView) → TearsBlocks free old mid → TearsBlocks free mid new → TearsBlocks free old new
blocks_trans free old mid new first second = record {
  images = each_then mid new old.moment (λ c. (d : Image) × Images old d × KeepsTaken free d c) second.time first.images
      (λ c since.
      let late = second.images c since in
      let early = first.images late.0 (now_since_start old mid late.0 first.time late.1) in
      (early.0, early.1, λ b taken. keeps_trans b early.0 late.0 c (early.2 b taken) (late.2 b taken)));
  content = λ f g told now. between mid.content refl (first.time.exposed (told_some old.content f told)) f g told now;
  time = passes_trans first.time second.time;
}
  where
    told_some : (o : Option Image) (f : Image) → o ≡ Some f → IsSome o
    told_some None f e = absurd (cc)
    told_some (Some x) f e = refl

    between : (o : Option Image) → mid.content ≡ o → IsSome o → (f g : Image) → Exposes old f → Exposes new g → KeepsTaken free f g
    between None e some = absurd (true≢false (sym some))
    between (Some h) e some = λ f g told now b taken. keeps_trans b f h g (first.content f h told e b taken) (second.content h g e now b taken)

-- what changes free blocks alone changes these and others at most
pub blocks_wider : (free more : ℕ → Bool) (old new : DiskView) → ((b : ℕ) → more b ≡ false → free b ≡ false) → TearsBlocks free old new → TearsBlocks more old new
blocks_wider free more old new fewer torn = record {
  images = λ c since. let one = torn.images c since in (one.0, one.1, λ b taken. one.2 b (fewer b taken));
  content = λ f g told now b taken. torn.content f g told now b (fewer b taken);
  time = torn.time;
}

-- a disk that was only read
pub reads_tear_none : (free : ℕ → Bool) (old new : DiskView) → OnlyReads old new → TearsBlocks free old new
reads_tear_none free old new reads = record {
  images = λ c since. (c, reads.images.each c since, λ b taken. keeps_refl b c);
  content = λ f g told now b taken. subst (KeepsBlock b f) (exposed_once new f g (reads.same ∙ told) now) (keeps_refl b f);
  time = reads.time;
}

-- what lies outside a block has the others
pub outside_keeps : (free : ℕ → Bool) (b : ℕ) (f g : Image) → free b ≡ true → Outside (4096 * b) 4096 f g → KeepsTaken free f g
outside_keeps free b f g is_free out q taken = record {
  byte = λ i from to.
      elim (cases_lt i (4096 * b)) [
        | inl before ↦ out.below i before
        | inr behind ↦
            elim (cases_lt i (4096 * b + 4096)) [
              | inl inside ↦ absurd (true≢false (sym is_free ∙ subst (λ (p : ℕ). free p ≡ false) (let same : q ≡ b = omega (arith, from, to, behind, inside) in same) taken))
              | inr above ↦ out.above i above
            ]
      ];
}

-- a write of a free block, whether it succeeds or not
pub write_tears : {T E : Type 0} (free : ℕ → Bool) (old new : DiskView) (b : ℕ) (bytes : List ℕ) (r : Result T E) → free b ≡ true → length bytes ≡ 4096
    → TearsOnly old new (4096 * b) (length bytes) → Passes old new
    → OnOk r (Writes old new (4096 * b) bytes) → OnErr r (Garbles old new (4096 * b) (length bytes))
    → TearsBlocks free old new
write_tears {T} {E} free old new b bytes r is_free long tears passes ok err = record {
  images = λ c since.
      let torn = tears.each c since in
      (torn.0, torn.1, outside_keeps free b torn.0 c is_free (subst (λ (n : ℕ). Outside (4096 * b) n torn.0 c) long torn.2));
  content = λ f g told now. outside_keeps free b f g is_free (subst (λ (n : ℕ). Outside (4096 * b) n f g) long (go r ok err f g told now));
  time = passes;
}
  where
    go : (s : Result T E) → OnOk s (Writes old new (4096 * b) bytes) → OnErr s (Garbles old new (4096 * b) (length bytes)) → (f g : Image) → Exposes old f → Exposes new g → Outside (4096 * b) (length bytes) f g
    go (Ok x) wrote failed f g told now =
        let is : new.content ≡ Some (patch f (4096 * b) bytes) = at_told old.content (λ h. new.content ≡ Some (patch h (4096 * b) bytes)) f told wrote in
        subst (Outside (4096 * b) (length bytes) f) (exposed_once new (patch f (4096 * b) bytes) g is now) (outside_patch f (4096 * b) bytes)
    go (Err x) wrote failed f g told now =
        let is : IsSomeAnd new.content (Outside (4096 * b) (length bytes) f) = at_told old.content (λ h. IsSomeAnd new.content (Outside (4096 * b) (length bytes) h)) f told failed in
        some_and new.content g now is
      where
        some_and : (o : Option Image) (h : Image) → o ≡ Some h → IsSomeAnd o (Outside (4096 * b) (length bytes) f) → Outside (4096 * b) (length bytes) f h
        some_and None h e p = absurd (cc)
        some_and (Some k) h e p = subst (Outside (4096 * b) (length bytes) f) (let s : k ≡ h = cc in s) p
