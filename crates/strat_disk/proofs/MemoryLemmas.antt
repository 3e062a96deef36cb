-- What the calls of a disk in memory leave to a crash.
use Rattle.std.proofs.Common.{◌≡◌, ◌<◌, ◌==◌, ℕ, true, List, length, refl, sym, ◌∙◌, ap, subst, arith, inl, inr, ◌⊎◌}
use Rattle.std.proofs.lemmas.Bool.{cases_lt, cases_Bool, cond-true, cond-false}
use Rattle.std.proofs.lemmas.List.{take_all}
use Rattle.def_crash.specs.Image.{Image, over}
use Rattle.def_crash.specs.Moments.{Images, Since, Passes, TearsOnly, KeepsImages, MayTear, IsDurable}
use Rattle.def_crash.proofs.ImageLemmas.{below, inside, above, lies, over_below, over_inside, over_above, same_everywhere}
use Rattle.strat_disk.specs.Medium.{Medium, written, settled, crashed, Leaves, IsWhole}
use Rattle.strat_disk.specs.PlaneView.{plane_of}
use Rattle.strat_disk.specs.History.{replay, at_moment, Continues}
use Rattle.strat_disk.specs.Memory.{log_view}
use Rattle.strat_disk.specs.declared.log.Log.{Log}

-- what a whole disk reads as may be left
pub content_leaves : (m : Medium) → IsWhole m → Leaves m m.content
content_leaves m whole = record { bytes = whole.content; durable = whole.same }

-- and so may each of its crashes
pub crashed_leaves : (choice : ℕ) (m : Medium) → IsWhole m → Leaves m (crashed choice m)
crashed_leaves choice m whole = record {
  bytes = λ i. elim (cases_Bool (m.pending i)) [
    | inl torn ↦ subst (λ (n : ℕ). n < 256) (sym (cond-true (m.pending i) _ (m.durable i) torn)) (elim (cases_Bool (choice == 0)) [
      | inl zero_is ↦ subst (λ (n : ℕ). n < 256) (sym (cond-true (choice == 0) (m.durable i) _ zero_is)) (whole.durable i)
      | inr not_zero ↦ subst (λ (n : ℕ). n < 256) (sym (cond-false (choice == 0) (m.durable i) _ not_zero)) (elim (cases_Bool (choice == 1)) [
        | inl one_is ↦ subst (λ (n : ℕ). n < 256) (sym (cond-true (choice == 1) (m.content i) 0xa7 one_is)) (whole.content i)
        | inr not_one ↦ subst (λ (n : ℕ). n < 256) (sym (cond-false (choice == 1) (m.content i) 0xa7 not_one)) (omega arith)
      ])
    ])
    | inr quiet ↦ subst (λ (n : ℕ). n < 256) (sym (cond-false (m.pending i) _ (m.durable i) quiet)) (whole.durable i)
  ];
  durable = λ i quiet. cond-false (m.pending i) _ (m.durable i) quiet;
}

-- the last moment is now
pub now_at : (l : Log) → at_moment (plane_of l.first) l.events.items (length l.events.items) ≡ plane_of l.present
now_at l = ap (λ (events : List _). replay (plane_of l.first) events) (take_all (length l.events.items) l.events.items (omega arith)) ∙ l.replays

pub from_now : (l : Log) (c : Image) → Leaves (plane_of l.present) c → Images (log_view l) c
from_now l c left = subst (λ (m : Medium). Leaves m c) (sym (now_at l)) left

pub to_now : (l : Log) (c : Image) → Images (log_view l) c → Leaves (plane_of l.present) c
to_now l c left = subst (λ (m : Medium). Leaves m c) (now_at l) left

module _ (old new : Log) (time : Continues (plane_of old.first) old.events.items (plane_of new.first) new.events.items) where
  pub passes : Passes (log_view old) (log_view new)
  passes = record {
    exposed = λ some. refl;
    later = time.later;
    past = λ n c le left. subst (λ (m : Medium). Leaves m c) (time.past n le) left;
    kept = λ n c le left. subst (λ (m : Medium). Leaves m c) (sym (time.past n le)) left;
  }

  -- since then there is the moment before and the one after
  pub either : (c : Image) → Since (log_view new) (log_view old).moment c → Leaves (plane_of old.present) c ⊎ Leaves (plane_of new.present) c
  either c since = elim (cases_lt since.at (length new.events.items)) [
    | inl before ↦
        let first : since.at ≡ length old.events.items = omega (arith, since.from, time.one) in
        let left : Leaves (at_moment (plane_of old.first) old.events.items since.at) c =
        subst (λ (m : Medium). Leaves m c) (time.past since.at (omega arith)) since.left in
        inl (to_now old c (subst (λ (n : ℕ). Leaves (at_moment (plane_of old.first) old.events.items n) c) first left))
    | inr after ↦
        let last : since.at ≡ length new.events.items = omega (arith, since.till) in
        inr (to_now new c (subst (λ (n : ℕ). Leaves (at_moment (plane_of new.first) new.events.items n) c) last since.left))
  ]

  pub leaves_same : plane_of new.present ≡ plane_of old.present → KeepsImages (log_view old) (log_view new)
  leaves_same same = record {
    each = λ c since. elim (either c since) [
      | inl before ↦ from_now old c before
      | inr after ↦ from_now old c (subst (λ (m : Medium). Leaves m c) same after)
    ];
  }

  pub leaves_settled : plane_of new.present ≡ settled (plane_of old.present) → KeepsImages (log_view old) (log_view new)
  leaves_settled is = record {
    each = λ c since. elim (either c since) [
      | inl before ↦ from_now old c before
      | inr after ↦
          let now : Leaves (settled (plane_of old.present)) c = subst (λ (m : Medium). Leaves m c) is after in
          let content : (plane_of old.present).content ≡ c = same_everywhere (plane_of old.present).content c (λ i. sym (now.durable i refl)) in
          from_now old c (subst (λ (d : Image). Leaves (plane_of old.present) d) content (content_leaves (plane_of old.present) old.present.whole))
    ];
  }

  pub is_settled : plane_of new.present ≡ settled (plane_of old.present) → IsDurable (log_view new)
  is_settled is = λ c left.
      let now : Leaves (settled (plane_of old.present)) c = subst (λ (m : Medium). Leaves m c) is (to_now new c left) in
      let content : c ≡ (plane_of old.present).content = same_everywhere c (plane_of old.present).content (λ i. now.durable i refl) in
      content ∙ sym (ap (λ (m : Medium). m.content) is)

  module _ (at : ℕ) (bytes : List ℕ) (is : plane_of new.present ≡ written at bytes (plane_of old.present)) where
    -- the old image behind one that is torn
    abbrev behind : Image → Image
    behind c = over at (length bytes) (plane_of old.present).durable c

    behind_left : (c : Image) → Leaves (written at bytes (plane_of old.present)) c → Leaves (plane_of old.present) (behind c)
    behind_left c left = record {
      bytes = λ i. elim (lies at (length bytes) i) [
        | below is ↦ subst (λ (n : ℕ). n < 256) (sym (over_below at (length bytes) _ c i is)) (left.bytes i)
        | inside from to ↦ subst (λ (n : ℕ). n < 256) (sym (over_inside at (length bytes) (plane_of old.present).durable c i from to)) (old.present.whole.durable i)
        | above is ↦ subst (λ (n : ℕ). n < 256) (sym (over_above at (length bytes) _ c i is)) (left.bytes i)
      ];
      durable = λ i quiet. elim (lies at (length bytes) i) [
        | below is ↦ over_below at (length bytes) _ c i is ∙ left.durable i (over_below at (length bytes) _ (plane_of old.present).pending i is ∙ quiet)
        | inside from to ↦ over_inside at (length bytes) (plane_of old.present).durable c i from to
        | above is ↦ over_above at (length bytes) _ c i is ∙ left.durable i (over_above at (length bytes) _ (plane_of old.present).pending i is ∙ quiet)
      ];
    }

    pub tears : TearsOnly (log_view old) (log_view new) at (length bytes)
    tears = record {
      each = λ c since. elim (either c since) [
        | inl before ↦ (c, from_now old c before, record { below = λ i is. refl; above = λ i is. refl })
        | inr after ↦
            let left : Leaves (written at bytes (plane_of old.present)) c = subst (λ (m : Medium). Leaves m c) is after in (
              behind c,
              from_now old (behind c) (behind_left c left),
              record {
                below = λ i is. sym (over_below at (length bytes) _ c i is);
                above = λ i is. sym (over_above at (length bytes) _ c i is);
              },
            )
      ];
    }

    pub may_tear : MayTear (log_view old) (log_view new) at (length bytes)
    may_tear = record {
      each = λ d c before outside bytes_of_c.
          let left = to_now old d before in
          from_now new c (subst (λ (m : Medium). Leaves m c) (sym is) (record {
            bytes = bytes_of_c;
            durable = λ i quiet. elim (lies at (length bytes) i) [
              | below is ↦ outside.below i is ∙ left.durable i (sym (over_below at (length bytes) _ (plane_of old.present).pending i is) ∙ quiet)
              | inside from to ↦ absurd (cc (over_inside at (length bytes) (λ _. true) (plane_of old.present).pending i from to))
              | above is ↦ outside.above i is ∙ left.durable i (sym (over_above at (length bytes) _ (plane_of old.present).pending i is) ∙ quiet)
            ];
          }));
    }
