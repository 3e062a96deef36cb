-- What a crash leaves of the slots while a superblock is laid, phase by phase.
use Rattle.std.proofs.Common.{◌≡◌, ◌≢◌, ◌≤◌, ◌<◌, ℕ, zero, suc, ◌+◌, ◌-◌, ◌*◌, inl, inr, ◌⊎◌, List, [], ◌∷◌, length, get_or, Some, None, Ok, Err, IfSome, refl, sym, ◌∙◌, ap, subst, arith}
use Rattle.std.proofs.lemmas.Bool.{cases_lt, cases_eq, cond-true}
use Rattle.std.proofs.lemmas.List.{get_or_append_left}
use Rattle.def_crash.specs.Image.{Image, SameIn, Outside, patch}
use Rattle.def_crash.specs.Moments.{DiskView, Images, Since, Passes, TearsOnly, KeepsImages, IsDurable}
use Rattle.def_bytes.specs.SuperBlock.{Super, IsLawful, spelled, fields, zeros, body, slot_in, newer, chosen_in, verdict, newest_in}
use Rattle.def_crash.proofs.ImageLemmas.{below, inside, above, lies, is_over, over_below, over_inside, over_above, is_window, outside_patch}
use Rattle.def_crash.proofs.MomentLemmas.{now_since_start, each_then, settled_at, at_told}
use Rattle.def_bytes.proofs.SuperBlockLemmas.{open_fields, length-spelled, length-body, gate_first, open_rest, lawful_in_range, slot_closed, slot_same, slot_laid, newer_first_gone, newer_second_gone, newer_first, newer_second}
use Rattle.strat_gate.specs.Gates.{EndsShut}
use Rattle.strat_gate.specs.Laying.{LaysOver, OldOrNew}

-- an image with the slots of another, but for one slot's block
pub record OtherSame (f : Image) (n : ℕ) (c : Image) : Type 0 where
  pub byte : (i : ℕ) → i < 8192 → (i < 4096 * n) ⊎ (4096 * n + 4096 ≤ i) → c i ≡ f i

module _ (f : Image) (n : ℕ) (sb : Super) (low : n < 2) (lawful : IsLawful sb) (v0 : DiskView) (lays : LaysOver v0 f n sb) where
  one_or_other : (n ≡ 0) ⊎ (n ≡ 1)
  one_or_other = elim (cases_lt n 1) [ inl none ↦ inl (omega arith) | inr one ↦ inr (omega arith) ]

  -- where this slot holds nothing and the other is the same, the newest is as before
  pub old_newest : (c : Image) → slot_in c (4096 * n) ≡ None → OtherSame f n c → newest_in c ≡ newest_in f
  old_newest c gone same = elim one_or_other [
    | inl zero_is ↦
        let second : slot_in c 4096 ≡ slot_in f 4096 = slot_same f c 4096 (record { byte = λ i from to. same.byte i (omega arith) (inr (omega arith)) }) in
        let at : 4096 * n ≡ 0 = omega arith in
        let first : slot_in c 0 ≡ None = ap (λ (k : ℕ). slot_in c k) (sym at) ∙ gone in
        let kept = newer_first_gone (slot_in f 0) (slot_in f 4096) (λ s. s.1.generation < sb.generation)
        (subst (λ (k : ℕ). IfSome (chosen_in f) (λ s. (s.0 ≢ k) × (s.1.generation < sb.generation))) zero_is lays.newest) in
        ap verdict ((λ j. newer (first j) (second j)) ∙ kept)
    | inr one_is ↦
        let first : slot_in c 0 ≡ slot_in f 0 = slot_same f c 0 (record { byte = λ i from to. same.byte i (omega arith) (inl (omega arith)) }) in
        let at : 4096 * n ≡ 4096 = omega arith in
        let second : slot_in c 4096 ≡ None = ap (λ (k : ℕ). slot_in c k) (sym at) ∙ gone in
        let kept = newer_second_gone (slot_in f 0) (slot_in f 4096) (λ s. s.1.generation < sb.generation)
        (subst (λ (k : ℕ). IfSome (chosen_in f) (λ s. (s.0 ≢ k) × (s.1.generation < sb.generation))) one_is lays.newest) in
        ap verdict ((λ j. newer (first j) (second j)) ∙ kept)
  ]

  in_slot : (k : ℕ) → verdict (Some (k, sb)) ≡ Ok (Some (k, sb))
  in_slot k = cond-true _ (Ok (Some (k, sb))) (Err k) (lawful_in_range sb lawful)

  -- where this slot holds the new superblock and the other is the same, the new one is the newest
  pub new_newest : (c : Image) → slot_in c (4096 * n) ≡ Some sb → OtherSame f n c → newest_in c ≡ Ok (Some (n, sb))
  new_newest c here same = elim one_or_other [
    | inl zero_is ↦
        let second : slot_in c 4096 ≡ slot_in f 4096 = slot_same f c 4096 (record { byte = λ i from to. same.byte i (omega arith) (inr (omega arith)) }) in
        let at : 4096 * n ≡ 0 = omega arith in
        let first : slot_in c 0 ≡ Some sb = ap (λ (k : ℕ). slot_in c k) (sym at) ∙ here in
        let chosen = newer_first sb (slot_in f 0) (slot_in f 4096)
        (subst (λ (k : ℕ). IfSome (chosen_in f) (λ s. (s.0 ≢ k) × (s.1.generation < sb.generation))) zero_is lays.newest) in
        ap verdict ((λ j. newer (first j) (second j)) ∙ chosen) ∙ in_slot 0 ∙ (λ j. Ok (Some (sym zero_is j, sb)))
    | inr one_is ↦
        let first : slot_in c 0 ≡ slot_in f 0 = slot_same f c 0 (record { byte = λ i from to. same.byte i (omega arith) (inl (omega arith)) }) in
        let at : 4096 * n ≡ 4096 = omega arith in
        let second : slot_in c 4096 ≡ Some sb = ap (λ (k : ℕ). slot_in c k) (sym at) ∙ here in
        let chosen = newer_second sb (slot_in f 0) (slot_in f 4096)
        (subst (λ (k : ℕ). IfSome (chosen_in f) (λ s. (s.0 ≢ k) × (s.1.generation < sb.generation))) one_is lays.newest) in
        ap verdict ((λ j. newer (first j) (second j)) ∙ chosen) ∙ in_slot 1 ∙ (λ j. Ok (Some (sym one_is j, sb)))
  ]

  -- an image with both slots as before has the newest of before
  same_newest : (c : Image) → SameIn 0 8192 f c → newest_in c ≡ newest_in f
  same_newest c same =
      let first : slot_in c 0 ≡ slot_in f 0 = slot_same f c 0 (record { byte = λ i from to. same.byte i (omega arith) (omega arith) }) in
      let second : slot_in c 4096 ≡ slot_in f 4096 = slot_same f c 4096 (record { byte = λ i from to. same.byte i (omega arith) (omega arith) }) in
      λ j. verdict (newer (first j) (second j))

  -- while the gate is being closed
  pub closing : (v1 : DiskView) → TearsOnly v0 v1 (4096 * n) 1 → (f (4096 * n) ≢ 0xa7 → KeepsImages v0 v1) → (c : Image) → Since v1 v0.moment c → newest_in c ≡ newest_in f
  closing v1 tears alone c since =
      let torn = tears.each c since in
      let before : SameIn 0 8192 f torn.0 = lays.same torn.0 torn.1 in
      let out : Outside (4096 * n) 1 torn.0 c = torn.2 in
      elim (cases_eq (c (4096 * n)) 0xa7) [
        | inl up ↦ elim (cases_eq (f (4096 * n)) 0xa7) [
          | inl was_up ↦ same_newest c (record {
            byte = λ i from to. elim (lies (4096 * n) 1 i) [
              | below is ↦ out.below i is ∙ before.byte i from to
              | inside low_i high_i ↦
                  let here : i ≡ 4096 * n = omega arith in
                  ap c here ∙ up ∙ sym was_up ∙ ap f (sym here)
              | above is ↦ out.above i is ∙ before.byte i from to
            ];
          })
          | inr was_shut ↦ same_newest c (lays.same c ((alone was_shut).each c since))
        ]
        | inr shut ↦ old_newest c (slot_closed c (4096 * n) shut) (record {
          byte = λ i to side. elim side [
            | inl under ↦ out.below i under ∙ before.byte i (omega arith) (omega arith)
            | inr past ↦ out.above i (omega arith) ∙ before.byte i (omega arith) (omega arith)
          ];
        })
      ]

  -- once it is closed: the content is told, this gate reads closed in every image, and the other slot is as before
  pub record Shut (v : DiskView) : Type 0 where
    pub content : Image
    pub exposed : v.content ≡ Some content
    pub same : (i : ℕ) → i ≢ 4096 * n → content i ≡ f i
    pub down : (c : Image) → Images v c → c (4096 * n) ≢ 0xa7
    pub other : (c : Image) → Images v c → OtherSame f n c

  pub closed : (v1 : DiskView) → Passes v0 v1 → EndsShut f (4096 * n) v0 v1 → Shut v1
  closed v1 passes (inl read_shut) = record {
    content = f;
    exposed = read_shut.1;
    same = λ i apart. refl;
    down = λ c left is.
        let before : SameIn 0 8192 f c = lays.same c (read_shut.2.each c (now_since_start v0 v1 c passes left)) in
        read_shut.0 (sym (before.byte (4096 * n) (omega arith) (omega arith)) ∙ is);
    other = λ c left. record {
      byte = λ i to side.
          let before : SameIn 0 8192 f c = lays.same c (read_shut.2.each c (now_since_start v0 v1 c passes left)) in
          before.byte i (omega arith) (omega arith);
    };
  }
  closed v1 passes (inr written) = record {
    content = patch f (4096 * n) (0 ∷ []);
    exposed = written.0;
    same = elsewhere;
    down = λ c left is.
        let whole : c ≡ patch f (4096 * n) (0 ∷ []) = settled_at v1 (patch f (4096 * n) (0 ∷ [])) written.0 written.1 c left in
        let e : 4096 * n - 4096 * n ≡ 0 = omega arith in
        let zero_is : c (4096 * n) ≡ 0 =
        (λ j. whole j (4096 * n))
        ∙ over_inside (4096 * n) 1 (λ i. get_or (0 ∷ []) (i - 4096 * n) 0) f (4096 * n) (omega arith) (omega arith)
        ∙ ap (λ (k : ℕ). get_or (0 ∷ []) k 0) e in
        absurd (omega arith);
    other = λ c left. record {
      byte = λ i to side.
          let whole : c ≡ patch f (4096 * n) (0 ∷ []) = settled_at v1 (patch f (4096 * n) (0 ∷ [])) written.0 written.1 c left in
          let apart : i ≢ 4096 * n = elim side [ inl under ↦ omega arith | inr past ↦ omega arith ] in
          (λ j. whole j i) ∙ elsewhere i apart;
    };
  }
    where
      elsewhere : (i : ℕ) → i ≢ 4096 * n → patch f (4096 * n) (0 ∷ []) i ≡ f i
      elsewhere i apart = elim (lies (4096 * n) 1 i) [
        | below is ↦ over_below (4096 * n) 1 _ f i is
        | inside low_i high_i ↦ absurd (omega arith)
        | above is ↦ over_above (4096 * n) 1 _ f i is
      ]

  -- while the body is being written
  pub writing : (v1 v2 : DiskView) → Shut v1 → TearsOnly v1 v2 (4096 * n + 1) (length (body sb)) → (c : Image) → Since v2 v1.moment c → newest_in c ≡ newest_in f
  writing v1 v2 shut tears c since =
      let len : length (body sb) ≡ 4095 = length-body sb in
      let torn = tears.each c since in
      let out : Outside (4096 * n + 1) 4095 torn.0 c = subst (λ (m : ℕ). Outside (4096 * n + 1) m torn.0 c) len torn.2 in
      let other : OtherSame f n torn.0 = shut.other torn.0 torn.1 in
      let gate : c (4096 * n) ≡ torn.0 (4096 * n) = out.below (4096 * n) (omega arith) in
      old_newest c (slot_closed c (4096 * n) (λ up. shut.down torn.0 torn.1 (sym gate ∙ up))) (record {
        byte = λ i to side. elim side [
          | inl under ↦ out.below i (omega arith) ∙ other.byte i to (inl under)
          | inr past ↦ out.above i (omega arith) ∙ other.byte i to (inr past)
        ];
      })

  -- once the body is there: each image is the content, which has the body behind the gate and the other slot as before
  pub record Bodied (v : DiskView) : Type 0 where
    pub content : Image
    pub exposed : v.content ≡ Some content
    pub only : (c : Image) → Images v c → c ≡ content
    pub before : Image
    pub behind : content ≡ patch before (4096 * n + 1) (body sb)
    pub same : (i : ℕ) → i ≢ 4096 * n → before i ≡ f i

  pub bodied : (v1 v2 : DiskView) (s : Shut v1) → v2.content ≡ Some (patch s.content (4096 * n + 1) (body sb)) → IsDurable v2 → Bodied v2
  bodied v1 v2 s exposed settled = record {
    content = patch s.content (4096 * n + 1) (body sb);
    exposed = exposed;
    only = λ c left. settled_at v2 _ exposed settled c left;
    before = s.content;
    behind = refl;
    same = s.same;
  }

  module _ (v2 : DiskView) (b : Bodied v2) where
    -- the content behind the gate
    content_behind : (j : ℕ) → j < 4095 → b.content (4096 * n + suc j) ≡ get_or (body sb) j 0
    content_behind j is =
        let len : length (body sb) ≡ 4095 = length-body sb in
        let e : 4096 * n + suc j - (4096 * n + 1) ≡ j = omega arith in
        (λ k. b.behind k (4096 * n + suc j))
        ∙ over_inside (4096 * n + 1) (length (body sb)) (λ i. get_or (body sb) (i - (4096 * n + 1)) 0) b.before (4096 * n + suc j) (omega arith) (omega arith)
        ∙ ap (λ (k : ℕ). get_or (body sb) k 0) e

    content_other : OtherSame f n b.content
    content_other = record {
      byte = λ i to side.
          let len : length (body sb) ≡ 4095 = length-body sb in
          elim side [
            | inl under ↦ (λ k. b.behind k i) ∙ over_below (4096 * n + 1) (length (body sb)) _ b.before i (omega arith) ∙ b.same i (omega arith)
            | inr past ↦ (λ k. b.behind k i) ∙ over_above (4096 * n + 1) (length (body sb)) _ b.before i (omega arith) ∙ b.same i (omega arith)
          ];
    }

    -- an image with that content but for the gate
    pub with_gate : (c : Image) → Outside (4096 * n) 1 b.content c → OldOrNew f n sb c × (c (4096 * n) ≡ 0xa7 → newest_in c ≡ Ok (Some (n, sb)))
    with_gate c out =
        let other : OtherSame f n c = record {
          byte = λ i to side. elim side [
            | inl under ↦ out.below i under ∙ content_other.byte i to (inl under)
            | inr past ↦ out.above i (omega arith) ∙ content_other.byte i to (inr past)
          ];
        } in
        let open_new : (c (4096 * n) ≡ 0xa7) → newest_in c ≡ Ok (Some (n, sb)) =
        λ (up : c (4096 * n) ≡ 0xa7). new_newest c (slot_laid c (4096 * n) sb lawful (sym (is_window c (4096 * n) 40 (spelled (open_fields sb)) (length-spelled (open_fields sb)) (read c out up)))) other in (
          elim (cases_eq (c (4096 * n)) 0xa7) [
            | inl up ↦ inr (open_new up)
            | inr shut ↦ inl (old_newest c (slot_closed c (4096 * n) shut) other)
          ],
          open_new,
        )
      where
        read : (c : Image) → Outside (4096 * n) 1 b.content c → c (4096 * n) ≡ 0xa7 → (i : ℕ) → i < 40 → get_or (spelled (open_fields sb)) i 0 ≡ c (4096 * n + i)
        read c out up zero is =
            let e : 4096 * n ≡ 4096 * n + 0 = omega arith in
            gate_first (spelled (fields sb)) ∙ sym up ∙ ap c e
        read c out up (suc j) is =
            let e : 39 ≡ length (spelled (fields sb)) = sym (length-spelled (fields sb)) in
            open_rest sb j
            ∙ sym (get_or_append_left (spelled (fields sb)) (zeros 4056) 0 j (omega arith))
            ∙ sym (content_behind j (omega arith))
            ∙ sym (out.above (4096 * n + suc j) (omega arith))

    -- while the gate is being raised
    pub raising : (v3 : DiskView) → TearsOnly v2 v3 (4096 * n) 1 → (c : Image) → Since v3 v2.moment c → OldOrNew f n sb c
    raising v3 tears c since =
        let torn = tears.each c since in
        let whole : torn.0 ≡ b.content = b.only torn.0 torn.1 in
        (with_gate c (subst (λ (d : Image). Outside (4096 * n) 1 d c) whole torn.2)).0

    -- once it is raised
    pub raised : (v3 : DiskView) → v3.content ≡ Some (patch b.content (4096 * n) (0xa7 ∷ [])) → IsDurable v3 → (c : Image) → Images v3 c → newest_in c ≡ Ok (Some (n, sb))
    raised v3 exposed settled c left =
        let whole : c ≡ patch b.content (4096 * n) (0xa7 ∷ []) = settled_at v3 _ exposed settled c left in
        let e : 4096 * n - 4096 * n ≡ 0 = omega arith in
        let up : patch b.content (4096 * n) (0xa7 ∷ []) (4096 * n) ≡ 0xa7 =
        over_inside (4096 * n) 1 (λ i. get_or (0xa7 ∷ []) (i - 4096 * n) 0) b.content (4096 * n) (omega arith) (omega arith)
        ∙ ap (λ (k : ℕ). get_or (0xa7 ∷ []) k 0) e in
        subst (λ (d : Image). newest_in d ≡ Ok (Some (n, sb))) (sym whole) ((with_gate (patch b.content (4096 * n) (0xa7 ∷ [])) (outside_patch b.content (4096 * n) (0xa7 ∷ []))).1 up)

  -- up to the end of the second phase, and of the third
  pub to_second : (v1 v2 : DiskView) → Passes v1 v2 → TearsOnly v0 v1 (4096 * n) 1 → (f (4096 * n) ≢ 0xa7 → KeepsImages v0 v1) → Shut v1
      → TearsOnly v1 v2 (4096 * n + 1) (length (body sb)) → (c : Image) → Since v2 v0.moment c → OldOrNew f n sb c
  to_second v1 v2 passes tears alone shut second =
      each_then v1 v2 v0.moment (λ c. OldOrNew f n sb c) passes (λ c since. inl (closing v1 tears alone c since)) (λ c since. inl (writing v1 v2 shut second c since))

  pub to_third : (v1 v2 v3 : DiskView) → Passes v1 v2 → Passes v2 v3 → TearsOnly v0 v1 (4096 * n) 1 → (f (4096 * n) ≢ 0xa7 → KeepsImages v0 v1) → Shut v1
      → TearsOnly v1 v2 (4096 * n + 1) (length (body sb)) → Bodied v2 → TearsOnly v2 v3 (4096 * n) 1 → (c : Image) → Since v3 v0.moment c → OldOrNew f n sb c
  to_third v1 v2 v3 passes later tears alone shut second b third =
      each_then v2 v3 v0.moment (λ c. OldOrNew f n sb c) later (to_second v1 v2 passes tears alone shut second) (raising v2 b v3 third)

-- a gate over bytes that were written behind it is one write of all of them
pub gate_over : (f g : Image) (at : ℕ) (bytes : List ℕ) → ((i : ℕ) → i ≢ at → g i ≡ f i) → patch (patch g (at + 1) bytes) at (0xa7 ∷ []) ≡ patch f at (0xa7 ∷ bytes)
gate_over f g at bytes same =
    is_over at (suc (length bytes)) (λ i. get_or (0xa7 ∷ bytes) (i - at) 0) f (patch (patch g (at + 1) bytes) at (0xa7 ∷ []))
    (λ i is. over_below at 1 _ _ i is ∙ over_below (at + 1) (length bytes) _ g i (omega arith) ∙ same i (omega arith))
    (λ i from to. elim (cases_lt i (at + 1)) [
      | inl first ↦
          let here : i - at ≡ 0 = omega arith in
          over_inside at 1 (λ k. get_or (0xa7 ∷ []) (k - at) 0) _ i from first ∙ ap (λ (k : ℕ). get_or (0xa7 ∷ []) k 0) here ∙ sym (ap (λ (k : ℕ). get_or (0xa7 ∷ bytes) k 0) here)
      | inr rest ↦
          let next : i - at ≡ suc (i - (at + 1)) = omega arith in
          over_above at 1 _ _ i rest
          ∙ over_inside (at + 1) (length bytes) (λ k. get_or bytes (k - (at + 1)) 0) g i rest (omega arith)
          ∙ sym (ap (λ (k : ℕ). get_or (0xa7 ∷ bytes) k 0) next)
    ])
    (λ i is. over_above at 1 _ _ i (omega arith) ∙ over_above (at + 1) (length bytes) _ g i (omega arith) ∙ same i (omega arith))

-- the content once all is done
pub content_laid : (f : Image) (at : ℕ) (bytes : List ℕ) (v0 v1 v2 v3 : DiskView) → EndsShut f at v0 v1
    → IfSome v1.content (λ g. v2.content ≡ Some (patch g (at + 1) bytes)) → IfSome v2.content (λ h. v3.content ≡ Some (patch h at (0xa7 ∷ [])))
    → v3.content ≡ Some (patch f at (0xa7 ∷ bytes))
content_laid f at bytes v0 v1 v2 v3 closed second third = elim closed [
  | inl shut ↦ laid f shut.1 (λ i apart. refl)
  | inr written ↦ laid (patch f at (0 ∷ [])) written.0 (λ i apart. elim (lies at 1 i) [
    | below is ↦ over_below at 1 _ f i is
    | inside from to ↦ absurd (omega arith)
    | above is ↦ over_above at 1 _ f i is
  ])
]
  where
    laid : (g : Image) → v1.content ≡ Some g → ((i : ℕ) → i ≢ at → g i ≡ f i) → v3.content ≡ Some (patch f at (0xa7 ∷ bytes))
    laid g exposed same =
        let after = at_told v1.content (λ (g : Image). v2.content ≡ Some (patch g (at + 1) bytes)) g exposed second in
        let end = at_told v2.content (λ (h : Image). v3.content ≡ Some (patch h at (0xa7 ∷ []))) (patch g (at + 1) bytes) after third in
        end ∙ ap (λ (c : Image). Some c) (gate_over f g at bytes same)
