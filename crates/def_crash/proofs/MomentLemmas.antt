-- How the calls on a disk compose: what holds of every image since the first of them.
use Rattle.std.proofs.Common.{◌≡◌, ◌≤◌, ℕ, ◌+◌, inl, inr, ◌⊎◌, List, length, Option, Some, None, IfSome, Result, IsErr, refl, sym, ◌∙◌, subst, arith}
use Rattle.std.proofs.lemmas.Result.{IfOk-from_err}
use Rattle.std.proofs.lemmas.Bool.{cases_lt}
use Rattle.def_crash.specs.Image.{Image, Outside, patch}
use Rattle.def_crash.specs.Moments.{DiskView, Images, Since, Passes, TearsOnly, KeepsImages, OnlyReads, IsDurable, WritesThrough}
use Rattle.def_crash.proofs.ImageLemmas.{outside_refl, outside_trans, outside_wider}

-- an image of now is one since now
pub now_since : (v : DiskView) (c : Image) → Images v c → Since v v.moment c
now_since v c left = record { at = v.moment; from = omega arith; till = omega arith; left = left }

-- and the other way round
pub since_now : (v : DiskView) (c : Image) → Since v v.moment c → Images v c
since_now v c since =
    let same : since.at ≡ v.moment = omega (arith, since.from, since.till) in
    subst (λ (m : ℕ). v.images_at m c) same since.left

-- what was left since a later moment was left since an earlier one
pub since_earlier : (v : DiskView) (t u : ℕ) (c : Image) → t ≤ u → Since v u c → Since v t c
since_earlier v t u c le since = record { at = since.at; from = omega (arith, since.from); till = since.till; left = since.left }

-- an image since then was left before the middle, or since it
pub since_split : (mid new : DiskView) (t : ℕ) (c : Image) → Passes mid new → Since new t c → Since mid t c ⊎ Since new mid.moment c
since_split mid new t c passes since = elim (cases_lt since.at mid.moment) [
  | inl early ↦ inl (record { at = since.at; from = since.from; till = omega arith; left = passes.past since.at c (omega arith) since.left })
  | inr late ↦ inr (record { at = since.at; from = late; till = since.till; left = since.left })
]

-- what holds of each image up to the middle, and of each since then, holds of all
pub each_then : (mid new : DiskView) (t : ℕ) (P : Image → Type 0) → Passes mid new → ((c : Image) → Since mid t c → P c)
    → ((c : Image) → Since new mid.moment c → P c) → (c : Image) → Since new t c → P c
each_then mid new t P passes before after c since = elim (since_split mid new t c passes since) [ inl early ↦ before c early | inr late ↦ after c late ]

pub passes_refl : (v : DiskView) → Passes v v
passes_refl v = record { exposed = λ some. some; later = omega arith; past = λ m c le left. left; kept = λ m c le left. left }

pub passes_trans : {old mid new : DiskView} → Passes old mid → Passes mid new → Passes old new
passes_trans a b = record {
  exposed = λ some. b.exposed (a.exposed some);
  later = omega (arith, a.later, b.later);
  past = λ m c le left. a.past m c le (b.past m c (omega (arith, a.later)) left);
  kept = λ m c le left. b.kept m c (omega (arith, a.later)) (a.kept m c le left);
}

pub leaves_refl : (v : DiskView) → KeepsImages v v
leaves_refl v = record { each = λ c since. since_now v c since }

-- an image of the middle is one since the start
pub now_since_start : (old mid : DiskView) (c : Image) → Passes old mid → Images mid c → Since mid old.moment c
now_since_start old mid c passes left = since_earlier mid old.moment mid.moment c passes.later (now_since mid c left)

pub leaves_trans : (old mid new : DiskView) → Passes old mid → Passes mid new → KeepsImages old mid → KeepsImages mid new → KeepsImages old new
leaves_trans old mid new first second a b = record {
  each = each_then mid new old.moment (λ c. Images old c) second a.each (λ c since. a.each c (now_since_start old mid c first (b.each c since)));
}

-- calls that only read, none of them and one after the other
pub reads_refl : (v : DiskView) → OnlyReads v v
reads_refl v = record { same = refl; images = leaves_refl v; time = passes_refl v }

pub reads_trans : {old mid new : DiskView} → OnlyReads old mid → OnlyReads mid new → OnlyReads old new
reads_trans {old} {mid} {new} a b = record {
  same = b.same ∙ a.same;
  images = leaves_trans old mid new a.time b.time a.images b.images;
  time = passes_trans a.time b.time;
}

-- leaving the images alone tears no range
pub leaves_tears : (old new : DiskView) (at n : ℕ) → KeepsImages old new → TearsOnly old new at n
leaves_tears old new at n a = record { each = λ c since. (c, a.each c since, outside_refl at n c) }

pub tears_wider : (old new : DiskView) (at n from m : ℕ) → from ≤ at → at + n ≤ from + m → TearsOnly old new at n → TearsOnly old new from m
tears_wider old new at n from m low high a =
    record { each = λ c since. let t = a.each c since in (t.0, t.1, outside_wider at n from m low high t.2) }

pub tears_trans : (old mid new : DiskView) (at n : ℕ) → Passes old mid → Passes mid new → TearsOnly old mid at n → TearsOnly mid new at n → TearsOnly old new at n
tears_trans old mid new at n first second a b = record {
  each = each_then mid new old.moment (λ c. (d : Image) × Images old d × Outside at n d c) second a.each
      (λ c since. let late = b.each c since in let early = a.each late.0 (now_since_start old mid late.0 first late.1) in (early.0, early.1, outside_trans early.2 late.2));
}

pub tears_then_leaves : (old mid new : DiskView) (at n : ℕ) → Passes old mid → Passes mid new → TearsOnly old mid at n → KeepsImages mid new → TearsOnly old new at n
tears_then_leaves old mid new at n first second a b = tears_trans old mid new at n first second a (leaves_tears mid new at n b)

pub leaves_then_tears : (old mid new : DiskView) (at n : ℕ) → Passes old mid → Passes mid new → KeepsImages old mid → TearsOnly mid new at n → TearsOnly old new at n
leaves_then_tears old mid new at n first second a b = tears_trans old mid new at n first second (leaves_tears old mid at n a) b

-- a clause on the content, where the content is known
pub at_told : {A : Type 0} (o : Option A) (P : A → Type 0) (x : A) → o ≡ Some x → IfSome o P → P x
at_told o P x exposed clause = subst (λ (w : Option _). IfSome w P) exposed clause

-- each image of a durable disk is the content
pub settled_at : (v : DiskView) (f : Image) → v.content ≡ Some f → IsDurable v → (c : Image) → Images v c → c ≡ f
settled_at v f exposed settled = at_told v.content (λ (f : Image). (c : Image) → Images v c → c ≡ f) f exposed settled

-- a disk that was only read is durable if it was before
pub reads_keep_durable : (old new : DiskView) → OnlyReads old new → IsDurable old → IsDurable new
reads_keep_durable old new reads durable =
    let each : IfSome old.content (λ f. (c : Image) → Images new c → c ≡ f) = each_content old.content durable in
    subst (λ (o : Option Image). IfSome o (λ f. (c : Image) → Images new c → c ≡ f)) (sym reads.same) each
  where
    each_content : (o : Option Image) → IfSome o (λ f. (c : Image) → Images old c → c ≡ f) → IfSome o (λ f. (c : Image) → Images new c → c ≡ f)
    each_content None is = tt
    each_content (Some f) is = λ c left. is c (reads.images.each c (now_since_start old new c reads.time left))

-- a write and a sync of which one failed
pub through_err : {T E : Type 0} (old new : DiskView) (at : ℕ) (bytes : List ℕ) (r : Result T E) → TearsOnly old new at (length bytes) → Passes old new → IsErr r → WritesThrough old new at bytes r
through_err old new at bytes r tears passes failed = record {
  images = tears;
  time = passes;
  content = IfOk-from_err r (λ _. IfSome old.content (λ f. new.content ≡ Some (patch f at bytes))) failed;
  settled = IfOk-from_err r (λ _. IsDurable new) failed;
}
