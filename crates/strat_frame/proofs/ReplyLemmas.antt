-- A reply that is read is the reply that was spelled, and what was spelled is read again.
use Rattle.std.proofs.Common.{◌≡◌, ℕ, ◌^◌, ◌<◌, Bool, true, false, cond, eqb, List, [], ◌∷◌, ◌++◌, length, Option, Some, None, refl, sym, ap, subst, ◌∙◌, inl, inr, arith, ◌%◌}
use Rattle.std.proofs.lemmas.Bool.{leb-true, eqb-true, cases_eq, eq-eqb, ne_eqb}
use Rattle.std.proofs.lemmas.List.{nil_from_length}
use Rattle.std.proofs.lemmas.Option.{cond_some, same_Some, none-some}
use Rattle.std.specs.Option.{option_and_then, option_map}
use Rattle.strat_base.specs.Numbers.{be, AreBytes}
use Rattle.strat_base.specs.Sizes.{is_value}
use Rattle.strat_base.proofs.NumberLemmas.{be-number_1}
use Rattle.strat_model.specs.declared.replies.Reply.{Reply}
use Rattle.strat_model.specs.declared.replies.Reply.TheVariants as reply
use Rattle.strat_model.specs.declared.replies.Refusal.{Refusal}
use Rattle.strat_model.specs.declared.replies.Refusal.TheVariants as why
use Rattle.strat_model.specs.Pairs.{Pairs}
use Rattle.strat_model.specs.Answer.{Answer, plain, as_told}
use Rattle.strat_model.specs.Spelling.{counted, flag, parent_bytes, pair_bytes, status_byte, reply_fields, reply_body, FitsCount, FitsParent, FitsReply, FitsPairs, SpellsReply}
use Rattle.std.specs.Prelude.{IfSome, IfNone}
use Rattle.strat_base.specs.Finds.{Finds}
use Rattle.strat_frame.specs.Fields.{number_then, counted_then, both, all_of, sole_number, sole_long, parent_for, parent_then, flag_then, info_in, stat_in, refusal_in, simple_reply, plain_reply_in, reply_value_in, listed_then, page_in, answer_in, reply_in}
use Rattle.strat_frame.proofs.FieldLemmas.{bind_some, map_some, either_arm, no_arm, front_parts, Reads, ReadsAll, number_reads, word_reads, counted_reads, both_read, all_read, sole_reads, sole_long_reads}
use Rattle.strat_frame.proofs.PageLemmas.{IsListed, listed_reads}

-- a parent is spelled by its number
parent_text : (n : ℕ) → n < 2 ^ 32 → (be 4 n ≡ parent_bytes (parent_for n)) × FitsParent (parent_for n)
parent_text n fits =
    elim (cases_eq n 4294967295) [
      | inl last ↦ rw (eq-eqb n 4294967295 last) (ap (be 4) last, tt)
      | inr other ↦ rw (ne_eqb n 4294967295 other) (refl, omega arith)
    ]

parent_reads : Reads (Option ℕ) parent_then parent_bytes FitsParent
unfolding parent_then
parent_reads = record {
  takes = λ bytes x rest fits e.
      let m = map_some (λ (n : ℕ × List ℕ). (parent_for n.0, n.1)) (number_then 4 bytes) (x, rest) e in
      let t = word_reads.takes bytes m.0.0 m.0.1 fits m.1 in
      let p = parent_text m.0.0 t.2 in
      subst (λ (y : Option ℕ × List ℕ). (bytes ≡ parent_bytes y.0 ++ y.1) × AreBytes y.1 × FitsParent y.0) m.2
      (t.0 ∙ ap (λ (text : List ℕ). text ++ m.0.1) p.0, t.1, p.1);
  again = parent_again;
}
  where
    parent_again : (x : Option ℕ) (rest : List ℕ) → FitsParent x → parent_then (parent_bytes x ++ rest) ≡ Some (x, rest)
    parent_again None rest fits = ap (option_map (λ (n : ℕ × List ℕ). (parent_for n.0, n.1))) (word_reads.again 4294967295 rest (omega arith))
    parent_again (Some parent) rest fits =
        let other : eqb parent 4294967295 ≡ false = ne_eqb parent 4294967295 (omega arith) in
        ap (option_map (λ (n : ℕ × List ℕ). (parent_for n.0, n.1))) (word_reads.again parent rest (omega arith)) ∙ rw other refl

-- a yes or no is spelled by one byte
flag_reads : Reads Bool flag_then (λ b. flag b ∷ []) (λ b. Unit {0})
unfolding flag_then be
flag_reads = record {
  takes = λ bytes x rest fits e.
      let a = bind_some (λ (n : ℕ × List ℕ). cond (eqb n.0 0) (Some (false, n.1)) (cond (eqb n.0 1) (Some (true, n.1)) None)) (number_then 1 bytes) (x, rest) e in
      let t = (number_reads 1 be-number_1).takes bytes a.0.0 a.0.1 fits a.1 in
      let Is : Bool × List ℕ → Type 0 = λ (y : Bool × List ℕ). (bytes ≡ (flag y.0 ∷ []) ++ y.1) × AreBytes y.1 × Unit {0} in
      let text : (b : Bool) → a.0.0 ≡ flag b → bytes ≡ (flag b ∷ []) ++ a.0.1 = λ b same. t.0 ∙ ap (λ (n : ℕ). n ∷ a.0.1) (flag_byte b a.0.0 same) in
      either_arm Is (eqb a.0.0 0) (Some (false, a.0.1)) (cond (eqb a.0.0 1) (Some (true, a.0.1)) None)
      (λ test y f. subst Is (same_Some (false, a.0.1) y f) (text false (eqb-true a.0.0 0 test), t.1, tt))
      (either_arm Is (eqb a.0.0 1) (Some (true, a.0.1)) None
      (λ test y f. subst Is (same_Some (true, a.0.1) y f) (text true (eqb-true a.0.0 1 test), t.1, tt))
      (no_arm Is))
      (x, rest) a.2;
  again = λ x rest fits. flag_again x rest;
}
  where
    flag_byte : (b : Bool) (n : ℕ) → n ≡ flag b → n % 256 ≡ flag b
    flag_byte true n same = omega arith
    flag_byte false n same = omega arith

    flag_again : (b : Bool) (rest : List ℕ) → flag_then ((flag b ∷ []) ++ rest) ≡ Some (b, rest)
    flag_again true rest = rw ((number_reads 1 be-number_1).again 1 rest (omega arith)) refl
    flag_again false rest = rw ((number_reads 1 be-number_1).again 0 rest (omega arith)) refl

info_reads : ReadsAll ((Option ℕ × ℕ) × Bool) info_in (λ x. (parent_bytes x.0.0 ++ be 4 x.0.1) ++ (flag x.1 ∷ [])) (λ x. (FitsParent x.0.0 × (x.0.1 < 2 ^ 32)) × Unit {0})
unfolding info_in
info_reads =
    all_read (both (both parent_then (number_then 4)) flag_then) _ _
    (both_read (both parent_then (number_then 4)) flag_then _ (λ b. flag b ∷ []) _ (λ b. Unit {0})
    (both_read parent_then (number_then 4) parent_bytes (be 4) FitsParent (λ n. n < 2 ^ 32) parent_reads word_reads) flag_reads)

stat_reads : ReadsAll (((ℕ × ℕ) × ℕ) × ℕ) stat_in (λ x. ((be 4 x.0.0.0 ++ be 4 x.0.0.1) ++ be 4 x.0.1) ++ be 4 x.1)
    (λ x. (((x.0.0.0 < 2 ^ 32) × (x.0.0.1 < 2 ^ 32)) × (x.0.1 < 2 ^ 32)) × (x.1 < 2 ^ 32))
unfolding stat_in
stat_reads =
    let two = both_read (number_then 4) (number_then 4) (be 4) (be 4) (λ n. n < 2 ^ 32) (λ n. n < 2 ^ 32) word_reads word_reads in
    let three = both_read (both (number_then 4) (number_then 4)) (number_then 4) (λ x. be 4 x.0 ++ be 4 x.1) (be 4) (λ x. (x.0 < 2 ^ 32) × (x.1 < 2 ^ 32)) (λ n. n < 2 ^ 32) two word_reads in
    all_read (both (both (both (number_then 4) (number_then 4)) (number_then 4)) (number_then 4)) _ _
    (both_read (both (both (number_then 4) (number_then 4)) (number_then 4)) (number_then 4) _ (be 4) _ (λ n. n < 2 ^ 32) three word_reads)

value_whole : ReadsAll (List ℕ) (all_of counted_then) counted FitsCount
value_whole = all_read counted_then counted FitsCount counted_reads

-- a reply without pairs whose status byte and fields these are
record IsReply (status : ℕ) (fields : List ℕ) (r : Reply) : Type 0 where
  pub text : status ∷ fields ≡ status_byte r ∷ reply_fields r []
  pub fits : FitsReply r
  pub pairs_fit : FitsPairs r []

-- such a reply without fields
abbrev IsBare : Reply → Type 0
IsBare r = (reply_fields r [] ≡ []) × FitsReply r × FitsPairs r []

bare_arm : (status : ℕ) (r : Reply) → IsBare r → eqb status (status_byte r) ≡ true → IsReply status [] r
bare_arm status r is test = record { text = λ j. eqb-true status (status_byte r) test j ∷ sym is.0 j; fits = is.1; pairs_fit = is.2 }

refusal_takes : (status : ℕ) (cause : Refusal) → refusal_in status ≡ Some cause → IsReply status [] (reply.Refused cause)
unfolding refusal_in
refusal_takes status =
    arm why.UnknownVersion (refl, tt, refl) _ (arm why.Frozen (refl, tt, refl) _ (arm why.UnknownCursor (refl, tt, refl) _ (arm why.VersionLimit (refl, tt, refl) _
    (arm why.ChangeLimit (refl, tt, refl) _ (arm why.CursorLimit (refl, tt, refl) _ (arm why.Malformed (refl, tt, refl) _ (arm why.KeySize (refl, tt, refl) _
    (arm why.ValueSize (refl, tt, refl) _ (arm why.ScanSize (refl, tt, refl) _ (arm why.FrameTooLong (refl, tt, refl) _ (arm why.Root (refl, tt, refl) _
    (arm why.NoMemory (refl, tt, refl) _ (arm why.DeviceFault (refl, tt, refl) _ (no_arm Is))))))))))))))
  where
    Is : Refusal → Type 0
    Is cause = IsReply status [] (reply.Refused cause)

    arm : (w : Refusal) → IsBare (reply.Refused w) → (o : Option Refusal) → ((cause : Refusal) → o ≡ Some cause → Is cause)
        → (cause : Refusal) → cond (eqb status (status_byte (reply.Refused w))) (Some w) o ≡ Some cause → Is cause
    arm w is o rest = either_arm Is (eqb status (status_byte (reply.Refused w))) (Some w) o (λ test cause e. subst Is (same_Some w cause e) (bare_arm status (reply.Refused w) is test)) rest

simple_takes : (status : ℕ) (r : Reply) → simple_reply status ≡ Some r → IsReply status [] r
unfolding simple_reply
simple_takes status =
    arm reply.Done (refl, tt, refl) _ (arm reply.Absent (refl, tt, refl) _ (λ r e.
    let m = map_some reply.Refused (refusal_in status) r e in
    subst Is m.2 (refusal_takes status m.0 m.1)))
  where
    Is : Reply → Type 0
    Is r = IsReply status [] r

    arm : (s : Reply) → IsBare s → (o : Option Reply) → ((r : Reply) → o ≡ Some r → Is r)
        → (r : Reply) → cond (eqb status (status_byte s)) (Some s) o ≡ Some r → Is r
    arm s is o rest = either_arm Is (eqb status (status_byte s)) (Some s) o (λ test r e. subst Is (same_Some s r e) (bare_arm status s is test)) rest

-- the replies of one status byte
by_status : {X : Type 0} (code : ℕ) (make : X → Reply) (read : List ℕ → Option X) (text : X → List ℕ) (Fits : X → Type 0) → ReadsAll X read text Fits
    → ((x : X) → Fits x → IsReply code (text x) (make x))
    → (status : ℕ) (fields : List ℕ) → AreBytes fields → eqb status code ≡ true → (r : Reply) → option_map make (read fields) ≡ Some r → IsReply status fields r
by_status code make read text Fits is makes status fields bytes test r e =
    let m = map_some make (read fields) r e in
    let t = is.takes fields m.0 bytes m.1 in
    subst (λ (n : ℕ). IsReply n fields r) (sym (eqb-true status code test))
    (subst (λ (f : List ℕ). IsReply code f r) (sym t.0)
    (subst (λ (s : Reply). IsReply code (text m.0) s) m.2 (makes m.0 t.1)))

plain_takes : (status : ℕ) (fields : List ℕ) → AreBytes fields → (r : Reply) → plain_reply_in status fields ≡ Some r → IsReply status fields r
unfolding plain_reply_in
plain_takes status fields bytes =
    let Is : Reply → Type 0 = λ (r : Reply). IsReply status fields r in
    either_arm Is (eqb status 4) _ _
    (by_status 4 (λ n. reply.Made n) sole_number _ _ sole_reads (λ n f. record { text = refl; fits = f; pairs_fit = refl }) status fields bytes)
    (either_arm Is (eqb status 5) _ _
    (by_status 5 (λ x. reply.Info x.0.0 x.0.1 x.1) info_in _ _ info_reads (λ x f. record { text = refl; fits = (f.0.0, f.0.1); pairs_fit = refl }) status fields bytes)
    (either_arm Is (eqb status 6) _ _
    (by_status 6 (λ n. reply.Opened n) sole_long _ _ sole_long_reads (λ n f. record { text = refl; fits = f; pairs_fit = refl }) status fields bytes)
    (either_arm Is (eqb status 7) _ _
    (by_status 7 (λ x. reply.Stat x.0.0.0 x.0.0.1 x.0.1 x.1) stat_in _ _ stat_reads
    (λ x f. record { text = refl; fits = (f.0.0.0, f.0.0.1, f.0.1, f.1); pairs_fit = refl }) status fields bytes)
    (either_arm Is (eqb status 34) _ _
    (by_status 34 (λ n. reply.Refused (why.Damaged n)) sole_number _ _ sole_reads (λ n f. record { text = refl; fits = f; pairs_fit = refl }) status fields bytes)
    (either_arm Is (eqb (length fields) 0) _ _
    (λ test r e. subst (λ (f : List ℕ). IsReply status f r) (sym (nil_from_length fields (eqb-true (length fields) 0 test))) (simple_takes status r e))
    (no_arm Is))))))

-- an answer whose status byte and fields these are
record IsAnswer (status : ℕ) (fields : List ℕ) (a : Answer) : Type 0 where
  pub text : status ∷ fields ≡ status_byte a.reply ∷ reply_fields a.reply a.pairs
  pub fits : FitsReply a.reply
  pub pairs_fit : FitsPairs a.reply a.pairs

-- the answers with pairs of one status byte
by_pairs : {X : Type 0} (code : ℕ) (make : X → Answer) (read : List ℕ → Option X) (text : X → List ℕ) (Fits : X → Type 0) → ReadsAll X read text Fits
    → ((x : X) → Fits x → IsAnswer code (text x) (make x))
    → (status : ℕ) (fields : List ℕ) → AreBytes fields → eqb status code ≡ true → (a : Answer) → option_map make (read fields) ≡ Some a → IsAnswer status fields a
by_pairs code make read text Fits is makes status fields bytes test a e =
    let m = map_some make (read fields) a e in
    let t = is.takes fields m.0 bytes m.1 in
    subst (λ (n : ℕ). IsAnswer n fields a) (sym (eqb-true status code test))
    (subst (λ (f : List ℕ). IsAnswer code f a) (sym t.0)
    (subst (λ (b : Answer). IsAnswer code (text m.0) b) m.2 (makes m.0 t.1)))

abbrev page : Bool × Pairs → Answer
page x = as_told (reply.Pairs x.0) x.1

-- a page is spelled by its flag, the number of its pairs and these
page_reads : ReadsAll (Bool × Pairs) page_in (λ x. (flag x.0 ∷ []) ++ (be 2 (length x.1) ++ pair_bytes x.1)) (λ x. Unit {0} × IsListed x.1)
unfolding page_in
page_reads =
    all_read (both flag_then listed_then) _ _
    (both_read flag_then listed_then (λ b. flag b ∷ []) (λ xs. be 2 (length xs) ++ pair_bytes xs) (λ b. Unit {0}) IsListed flag_reads listed_reads)

abbrev found : List ℕ → Answer
found value = as_told reply.Found ((63 ∷ [], value) ∷ [])

value_takes : (fields value : List ℕ) → AreBytes fields → reply_value_in fields ≡ Some value → (fields ≡ counted value) × (is_value value ≡ true)
unfolding reply_value_in
value_takes fields value bytes e =
    let a = bind_some (λ (v : List ℕ). cond (is_value v) (Some v) None) (all_of counted_then fields) value e in
    let t = value_whole.takes fields a.0 bytes a.1 in
    let g = cond_some (is_value a.0) a.0 value a.2 in
    subst (λ (x : List ℕ). (fields ≡ counted x) × (is_value x ≡ true)) g.1 (t.0, g.0)

answer_takes : (status : ℕ) (fields : List ℕ) → AreBytes fields → (a : Answer) → answer_in status fields ≡ Some a → IsAnswer status fields a
unfolding answer_in
answer_takes status fields bytes =
    let Is : Answer → Type 0 = λ (a : Answer). IsAnswer status fields a in
    either_arm Is (eqb status 1) _ _
    (λ test a e.
    let m = map_some found (reply_value_in fields) a e in
    let v = value_takes fields m.0 bytes m.1 in
    subst Is m.2 (record { text = λ j. eqb-true status 1 test j ∷ v.0 j; fits = tt; pairs_fit = (m.0, refl, v.1) }))
    (either_arm Is (eqb status 3) _ _
    (by_pairs 3 page page_in _ _ page_reads (λ x f. record { text = refl; fits = tt; pairs_fit = (f.1.few, f.1.each) }) status fields bytes)
    (λ a e.
    let m = map_some plain (plain_reply_in status fields) a e in
    let s = plain_takes status fields bytes m.0 m.1 in
    subst Is m.2 (record { text = s.text; fits = s.fits; pairs_fit = s.pairs_fit })))

-- what is read is spelled so
reply_takes : (body : List ℕ) (tag : ℕ) (a : Answer) → AreBytes body → reply_in body ≡ Some (tag, a) → SpellsReply body tag a
unfolding reply_in
reply_takes body tag a fits e =
    let t = bind_some (λ (t : ℕ × List ℕ). option_and_then (λ status. option_and_then (λ r. Some (t.0, r)) (answer_in status.0 status.1)) (number_then 1 t.1)) (number_then 4 body) (tag, a) e in
    let s = bind_some (λ (status : ℕ × List ℕ). option_and_then (λ r. Some (t.0.0, r)) (answer_in status.0 status.1)) (number_then 1 t.0.1) (tag, a) t.2 in
    let r = bind_some (λ (r : Answer). Some (t.0.0, r)) (answer_in s.0.0 s.0.1) (tag, a) s.2 in
    let t0 = word_reads.takes body t.0.0 t.0.1 fits t.1 in
    let t1 = (number_reads 1 be-number_1).takes t.0.1 s.0.0 s.0.1 t0.1 s.1 in
    let is = answer_takes s.0.0 s.0.1 t1.1 r.0 r.1 in
    let text = front_parts body t.0.1 s.0.1 (status_byte r.0.reply ∷ reply_fields r.0.reply r.0.pairs) t.0.0 s.0.0 t0.0 t1.0 t1.2 is.text in
    let made : SpellsReply body t.0.0 r.0 = record { text = text; tag_fits = t0.2; fits = is.fits; pairs_fit = is.pairs_fit } in
    subst (λ (x : ℕ × Answer). SpellsReply body x.0 x.1) (same_Some (t.0.0, r.0) (tag, a) r.2) made

-- a tag and a status byte in front of fields
front_again : (tag status : ℕ) (fields : List ℕ) (a : Answer) → tag < 2 ^ 32 → status < 256 → answer_in status fields ≡ Some a → reply_in (be 4 tag ++ status ∷ fields) ≡ Some (tag, a)
unfolding reply_in be
front_again tag status fields a tag_fits status_fits e =
    let byte : status ∷ fields ≡ be 1 status ++ fields = ap (λ (n : ℕ). n ∷ fields) (omega arith) in
    rw (word_reads.again tag (status ∷ fields) tag_fits) (rw byte (rw ((number_reads 1 be-number_1).again status fields status_fits, e) refl))

value_again : (value : List ℕ) → is_value value ≡ true → reply_value_in (counted value) ≡ Some value
unfolding reply_value_in
value_again value fits =
    let short : FitsCount value = omega (arith, leb-true (length value) 1024 fits) in
    rw (value_whole.again value short, fits) refl

-- a reply is read where its status byte and fields are
abbrev ReadsReply : ℕ → Reply → Pairs → Type 0
ReadsReply tag r pairs = reply_in (reply_body tag (as_told r pairs)) ≡ Some (tag, as_told r pairs)

-- a reply without pairs
plain_again : (tag : ℕ) (r : Reply) (pairs : Pairs) → tag < 2 ^ 32 → pairs ≡ [] → status_byte r < 256 → answer_in (status_byte r) (reply_fields r []) ≡ Some (plain r) → ReadsReply tag r pairs
plain_again tag r pairs tag_fits none byte_fits e =
    subst (ReadsReply tag r) (sym none) (front_again tag (status_byte r) (reply_fields r []) (plain r) tag_fits byte_fits e)

-- what is spelled so is read
reply_again : (tag : ℕ) (r : Reply) (pairs : Pairs) → tag < 2 ^ 32 → FitsReply r → FitsPairs r pairs → ReadsReply tag r pairs
unfolding answer_in plain_reply_in simple_reply refusal_in
reply_again tag reply.Done pairs tag_fits fits none = plain_again tag reply.Done pairs tag_fits none (omega arith) refl
reply_again tag reply.Found pairs tag_fits fits one =
    let e : answer_in 1 (counted one.0) ≡ Some (found one.0) = ap (option_map found) (value_again one.0 one.2) in
    subst (ReadsReply tag reply.Found) (sym one.1) (front_again tag 1 (counted one.0) (found one.0) tag_fits (omega arith) e)
reply_again tag reply.Absent pairs tag_fits fits none = plain_again tag reply.Absent pairs tag_fits none (omega arith) refl
reply_again tag (reply.Made version) pairs tag_fits fits none =
    plain_again tag (reply.Made version) pairs tag_fits none (omega arith)
    (ap (λ (o : Option ℕ). option_map plain (option_map (λ (n : ℕ). reply.Made n) o)) (sole_reads.again version fits))
reply_again tag (reply.Info parent depth frozen) pairs tag_fits fits none =
    plain_again tag (reply.Info parent depth frozen) pairs tag_fits none (omega arith)
    (ap (λ (o : Option ((Option ℕ × ℕ) × Bool)). option_map plain (option_map (λ (x : (Option ℕ × ℕ) × Bool). reply.Info x.0.0 x.0.1 x.1) o))
    (info_reads.again ((parent, depth), frozen) ((fits.0, fits.1), tt)))
reply_again tag (reply.Stat versions updates changes cursors) pairs tag_fits fits none =
    plain_again tag (reply.Stat versions updates changes cursors) pairs tag_fits none (omega arith)
    (ap (λ (o : Option (((ℕ × ℕ) × ℕ) × ℕ)). option_map plain (option_map (λ (x : ((ℕ × ℕ) × ℕ) × ℕ). reply.Stat x.0.0.0 x.0.0.1 x.0.1 x.1) o))
    (stat_reads.again (((versions, updates), changes), cursors) (((fits.0, fits.1), fits.2), fits.3)))
reply_again tag (reply.Refused why.UnknownVersion) pairs tag_fits fits none = plain_again tag (reply.Refused why.UnknownVersion) pairs tag_fits none (omega arith) refl
reply_again tag (reply.Refused why.Frozen) pairs tag_fits fits none = plain_again tag (reply.Refused why.Frozen) pairs tag_fits none (omega arith) refl
reply_again tag (reply.Refused why.VersionLimit) pairs tag_fits fits none = plain_again tag (reply.Refused why.VersionLimit) pairs tag_fits none (omega arith) refl
reply_again tag (reply.Refused why.ChangeLimit) pairs tag_fits fits none = plain_again tag (reply.Refused why.ChangeLimit) pairs tag_fits none (omega arith) refl
reply_again tag (reply.Refused why.Malformed) pairs tag_fits fits none = plain_again tag (reply.Refused why.Malformed) pairs tag_fits none (omega arith) refl
reply_again tag (reply.Refused why.KeySize) pairs tag_fits fits none = plain_again tag (reply.Refused why.KeySize) pairs tag_fits none (omega arith) refl
reply_again tag (reply.Refused why.ValueSize) pairs tag_fits fits none = plain_again tag (reply.Refused why.ValueSize) pairs tag_fits none (omega arith) refl
reply_again tag (reply.Refused why.FrameTooLong) pairs tag_fits fits none = plain_again tag (reply.Refused why.FrameTooLong) pairs tag_fits none (omega arith) refl
reply_again tag (reply.Refused why.Root) pairs tag_fits fits none = plain_again tag (reply.Refused why.Root) pairs tag_fits none (omega arith) refl
reply_again tag (reply.Refused why.NoMemory) pairs tag_fits fits none = plain_again tag (reply.Refused why.NoMemory) pairs tag_fits none (omega arith) refl
reply_again tag (reply.Refused why.DeviceFault) pairs tag_fits fits none = plain_again tag (reply.Refused why.DeviceFault) pairs tag_fits none (omega arith) refl
reply_again tag (reply.Refused (why.Damaged block)) pairs tag_fits fits none =
    plain_again tag (reply.Refused (why.Damaged block)) pairs tag_fits none (omega arith)
    (ap (λ (o : Option ℕ). option_map plain (option_map (λ (n : ℕ). reply.Refused (why.Damaged n)) o)) (sole_reads.again block fits))
reply_again tag (reply.Pairs more) pairs tag_fits fits listed =
    let e : answer_in 3 (reply_fields (reply.Pairs more) pairs) ≡ Some (page (more, pairs)) = ap (option_map page) (page_reads.again (more, pairs) (tt, record { few = listed.0; each = listed.1 })) in
    front_again tag 3 (reply_fields (reply.Pairs more) pairs) (page (more, pairs)) tag_fits (omega arith) e
reply_again tag (reply.Opened cursor) pairs tag_fits fits none =
    plain_again tag (reply.Opened cursor) pairs tag_fits none (omega arith)
    (ap (λ (o : Option ℕ). option_map plain (option_map (λ (n : ℕ). reply.Opened n) o)) (sole_long_reads.again cursor fits))
reply_again tag (reply.Refused why.UnknownCursor) pairs tag_fits fits none = plain_again tag (reply.Refused why.UnknownCursor) pairs tag_fits none (omega arith) refl
reply_again tag (reply.Refused why.CursorLimit) pairs tag_fits fits none = plain_again tag (reply.Refused why.CursorLimit) pairs tag_fits none (omega arith) refl
reply_again tag (reply.Refused why.ScanSize) pairs tag_fits fits none = plain_again tag (reply.Refused why.ScanSize) pairs tag_fits none (omega arith) refl

-- a body is read as the reply that it spells
spelled_is_read : (body : List ℕ) (tag : ℕ) (a : Answer) → SpellsReply body tag a → reply_in body ≡ Some (tag, a)
spelled_is_read body tag a is = ap reply_in is.text ∙ reply_again tag a.reply a.pairs is.tag_fits is.fits is.pairs_fit

-- what was found is spelled so
pub is_found : (body : List ℕ) (o : Option (ℕ × Reply)) (pairs : Pairs) → AreBytes body → Finds (λ r. (r.0, as_told r.1 pairs)) o (reply_in body)
    → IfSome o (λ r. SpellsReply body r.0 (as_told r.1 pairs))
is_found body None pairs fits e = tt
is_found body (Some r) pairs fits e = reply_takes body r.0 (as_told r.1 pairs) fits e

-- where nothing was found nothing is spelled
pub is_none : (body : List ℕ) (o : Option (ℕ × Reply)) (pairs : Pairs) → Finds (λ r. (r.0, as_told r.1 pairs)) o (reply_in body)
    → IfNone o ((tag : ℕ) (a : Answer) → SpellsReply body tag a → ⊥)
is_none body (Some r) pairs e = tt
is_none body None pairs e = λ tag a is. none-some (tag, a) (sym e ∙ spelled_is_read body tag a is)

-- a body spells one reply under one tag
pub one_reply : (body : List ℕ) (tag other_tag : ℕ) (a other : Answer) → SpellsReply body tag a → SpellsReply body other_tag other → (tag ≡ other_tag) × (a ≡ other)
one_reply body tag other_tag a other is is_other =
    let parts : (tag, a) ≡ (other_tag, other) = same_Some (tag, a) (other_tag, other) (sym (spelled_is_read body tag a is) ∙ spelled_is_read body other_tag other is_other) in
    (ap (λ (x : ℕ × Answer). x.0) parts, ap (λ (x : ℕ × Answer). x.1) parts)
