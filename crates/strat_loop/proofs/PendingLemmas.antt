-- Replies that are pending, and what of them is sent.
use Rattle.std.proofs.Common.{◌≡◌, ◌≤◌, ℕ, ◌+◌, List, [], ◌++◌, length, take, drop, Option, Some, None, refl, sym, ap, subst, ◌∙◌, inl, inr, append_assoc, length-append, arith}
use Rattle.std.specs.List.{flat_map}
use Rattle.std.proofs.lemmas.List.{append-nil, drop-append-le, drop_all, take_all, take-append-drop, take-append-le}
use Rattle.std.proofs.lemmas.List.Concat.{flat_map-append}
use Rattle.def_crash.specs.Faults.{Rose}
use Rattle.strat_io.specs.Streams.{Appends}
use Rattle.strat_io.proofs.StreamLemmas.{appends_then}
use Rattle.strat_model.specs.declared.ended.Ended.{Ended}
use Rattle.strat_model.specs.Stream.{frame}
use Rattle.strat_loop.specs.Pending.{Pending, ArePending, SendsAtEnd, SendsOrKeeps, none_pending, with_sent}
use Rattle.strat_loop.specs.Session.{SendsPrefix, WaitsForNone}
use Rattle.strat_loop.specs.Speech.{Said, Speech, said_bytes}
use Rattle.strat_loop.specs.Spoken.{SendsAllButLast, Sitting, all_said, output_of}

-- a sink with nothing more holds what it held
pub with_none : (s : Option (List ℕ)) → with_sent s [] ≡ s
with_none None = refl
with_none (Some held) = ap (λ (x : List ℕ). Some x) (append-nil held)

-- bytes were sent one after the other
pub sent_then : (a b c : Option (List ℕ)) (x y : List ℕ) → Appends a b x → Appends b c y → Appends a c (x ++ y)
sent_then a b c x y first second = appends_then a b c x y first second

-- a sink that took bytes holds these more
pub appends_is : (a b : Option (List ℕ)) (bytes : List ℕ) → Appends a b bytes → b ≡ with_sent a bytes
appends_is None b bytes sent = sent.hidden refl
appends_is (Some held) b bytes sent = sent.exposed held refl

-- and one that would hold bytes more, and still more, took the last of them behind the others
pub took_behind : (s : Option (List ℕ)) (bytes more : List ℕ) → Appends (with_sent s bytes) (with_sent s (bytes ++ more)) more
took_behind None bytes more = record { exposed = λ held e. absurd (let f : ◌≡◌ {A = Option (List ℕ)} None (Some held) = e in cc); hidden = λ e. refl }
took_behind (Some held) bytes more = record {
  exposed = λ other e. let same : held ++ bytes ≡ other = cc in ap (λ (x : List ℕ). Some x) (sym (append_assoc held bytes more) ∙ ap (λ (x : List ℕ). x ++ more) same);
  hidden = λ e. absurd (let f : ◌≡◌ {A = Option (List ℕ)} (Some (held ++ bytes)) None = e in cc);
}

pub appends_behind : (a b : Option (List ℕ)) (bytes more : List ℕ) → Appends a b (bytes ++ more) → Appends (with_sent a bytes) b more
appends_behind a b bytes more sent = subst (λ (o : Option (List ℕ)). Appends (with_sent a bytes) o more) (sym (appends_is a b (bytes ++ more) sent)) (took_behind a bytes more)

-- a sink that took a part of the front took a part of all, and so did one that took a part behind a front
pub cut_front : (a b : Option (List ℕ)) (x y : List ℕ) → SendsPrefix a b x → SendsPrefix a b (x ++ y)
cut_front a b x y cut = record {
  sent = cut.sent;
  later = cut.later ++ y;
  parts = ap (λ (z : List ℕ). z ++ y) cut.parts ∙ append_assoc cut.sent cut.later y;
  some = omega (arith, cut.some, length-append cut.later y);
  appends = cut.appends;
}

pub cut_then : (a b c : Option (List ℕ)) (x y : List ℕ) → Appends a b x → SendsPrefix b c y → SendsPrefix a c (x ++ y)
cut_then a b c x y first cut = record {
  sent = x ++ cut.sent;
  later = cut.later;
  parts = ap (λ (z : List ℕ). x ++ z) cut.parts ∙ sym (append_assoc x cut.sent cut.later);
  some = cut.some;
  appends = appends_then a b c x cut.sent first cut.appends;
}

-- bytes behind what was pending were sent at the end of a run, whether that was sent before them or with them
pub ends_behind : (how result : Ended) (a b c : Option (List ℕ)) (was mid is : ℕ) (old new : Pending) (more : List ℕ) → SendsOrKeeps a b old new → mid ≡ was → SendsAtEnd how result b c mid is (new.bytes ++ more)
    → SendsAtEnd how result a c was is (old.bytes ++ more)
ends_behind how result a b c was mid is old new more (inl kept) same ends =
    subst (λ (n : ℕ). SendsAtEnd how result a c n is (old.bytes ++ more)) same
    (subst (λ (p : Pending). SendsAtEnd how result a c mid is (p.bytes ++ more)) kept.1 (subst (λ (o : Option (List ℕ)). SendsAtEnd how result o c mid is (new.bytes ++ more)) kept.0 ends))
ends_behind how result a b c was mid is old new more (inr sent) same ends =
    elim (subst (λ (p : Pending). SendsAtEnd how result b c mid is (p.bytes ++ more)) sent.1 ends) [
      | inl all ↦ inl (all.0, appends_then a b c old.bytes more sent.0 all.1, all.2 ∙ same)
      | inr cut ↦ inr (cut.0, cut_then a b c old.bytes more sent.0 cut.1, subst (λ (n : ℕ). Rose n is) same cut.2)
    ]

-- the same behind bodies that were read later
pub ahead_more : (taken : List ℕ) (bodies others : List (List ℕ)) (n : ℕ) → n ≤ length bodies → WaitsForNone taken bodies n → WaitsForNone taken (bodies ++ others) n
ahead_more taken bodies others n most ahead = record {
  read = ahead.read;
  few = ahead.few;
  held = ahead.held;
  part = ahead.part;
  piece = ahead.piece;
  short = ahead.short;
  parts = ahead.parts ∙ ap (λ (xs : List (List ℕ)). flat_map frame xs ++ (ahead.held ++ ahead.piece)) (sym (take-append-le ahead.read bodies others (omega (arith, ahead.few, most))));
}

-- and where more bodies were answered
pub ahead_within : (taken : List ℕ) (bodies : List (List ℕ)) (n m : ℕ) → n ≤ m → WaitsForNone taken bodies n → WaitsForNone taken bodies m
ahead_within taken bodies n m le ahead = record {
  read = ahead.read;
  few = omega (arith, ahead.few, le);
  held = ahead.held;
  part = ahead.part;
  piece = ahead.piece;
  short = ahead.short;
  parts = ahead.parts;
}

module _ (speech : Speech) where
  -- the bytes of responses in two parts
  pub parts_sent : (n : ℕ) (answers : List Said) → said_bytes answers ≡ said_bytes (take n answers) ++ said_bytes (drop n answers)
  parts_sent n answers = ap said_bytes (sym (take-append-drop n answers)) ∙ flat_map-append (λ (r : Said). r.sent) (take n answers) (drop n answers)

  -- nothing is pending where all was sent
  pub are_none : (taken : List ℕ) (bodies : List (List ℕ)) (answers : List Said) (before now : Option (List ℕ)) → Appends before now (said_bytes answers) → WaitsForNone taken bodies (length answers)
      → ArePending none_pending taken bodies answers before now
  are_none taken bodies answers before now sent ahead = record {
    sent = length answers;
    few = omega arith;
    most = omega arith;
    room = omega arith;
    appends = subst (λ (l : List Said). Appends before now (said_bytes l)) (sym (take_all (length answers) answers (omega arith))) sent;
    text = ap said_bytes (sym (drop_all (length answers) answers (omega arith)));
    ahead = ahead;
  }

  module _ (replies : Pending) (taken : List ℕ) (bodies : List (List ℕ)) (answers : List Said) (before mid : Option (List ℕ)) (p : ArePending replies taken bodies answers before mid) (as_many : length answers ≡ length bodies) where
    -- replies more are pending
    pub are_more : (others : List (List ℕ)) (more : List Said) (bytes : List ℕ) → bytes ≡ said_bytes more → replies.count + length more ≤ 16
        → ArePending (record { bytes = replies.bytes ++ bytes; count = replies.count + length more }) taken (bodies ++ others) (answers ++ more) before mid
    are_more others more bytes text room = record {
      sent = p.sent;
      few = omega (arith, p.few, length-append answers more);
      most = omega (arith, p.most, length-append answers more);
      room = room;
      appends = subst (λ (l : List Said). Appends before mid (said_bytes l)) (sym (take-append-le p.sent answers more p.few)) p.appends;
      text = ap (λ (x : List ℕ). x ++ bytes) p.text ∙ ap (λ (x : List ℕ). said_bytes (drop p.sent answers) ++ x) text
          ∙ sym (ap said_bytes (drop-append-le p.sent answers more p.few) ∙ flat_map-append (λ (r : Said). r.sent) (drop p.sent answers) more);
      ahead = ahead_more taken bodies others p.sent (omega (arith, p.few, as_many)) p.ahead;
    }

    -- a sink that failed at them, and at bytes behind them, took all replies of a session but sixteen
    pub sends_but : (now : Option (List ℕ)) (tail : List ℕ) → SendsPrefix mid now (replies.bytes ++ tail)
        → (s : Sitting) (others : List (List ℕ)) (more : List Said) (last : List ℕ) → s.taken ≡ taken → s.bodies ≡ bodies ++ others → all_said s ≡ answers ++ more
        → output_of speech s ≡ (said_bytes answers ++ tail) ++ last → replies.count + length more ≤ 16 → SendsAllButLast speech before now s
    sends_but now tail cut s others more last taken_is bodies_are responses_are output_is room =
        let front : List ℕ = said_bytes (take p.sent answers) in
        let whole : said_bytes answers ++ tail ≡ (front ++ cut.sent) ++ cut.later =
        ap (λ (x : List ℕ). x ++ tail) (parts_sent p.sent answers) ∙ append_assoc front (said_bytes (drop p.sent answers)) tail
        ∙ ap (λ (x : List ℕ). front ++ (x ++ tail)) (sym p.text) ∙ ap (λ (x : List ℕ). front ++ x) cut.parts ∙ sym (append_assoc front cut.sent cut.later) in
        record {
          cut = record {
            sent = front ++ cut.sent;
            later = cut.later ++ last;
            parts = output_is ∙ ap (λ (x : List ℕ). x ++ last) whole ∙ append_assoc (front ++ cut.sent) cut.later last;
            some = omega (arith, cut.some, length-append cut.later last);
            appends = appends_then before mid now front cut.sent p.appends cut.appends;
          };
          whole = p.sent;
          last = omega (arith, p.most, room, ap length responses_are, length-append answers more);
          part = cut.sent;
          replied = ap (λ (l : List Said). said_bytes l ++ cut.sent) (sym (ap (take p.sent) responses_are ∙ take-append-le p.sent answers more p.few));
          ahead = subst (λ (l : List (List ℕ)). WaitsForNone s.taken l p.sent) (sym bodies_are)
              (subst (λ (x : List ℕ). WaitsForNone x (bodies ++ others) p.sent) (sym taken_is) (ahead_more taken bodies others p.sent (omega (arith, p.few, as_many)) p.ahead));
        }
