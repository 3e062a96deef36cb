-- A state is sound exactly where it is well formed and breaks no rule.
use Rattle.std.proofs.Common.{◌≡◌, ℕ, Bool, true, false, eqb, length, List, [], ◌++◌, refl, sym, ap, ◌∙◌, true≢false}
use Rattle.std.specs.List.{list_all, flat_map}
use Rattle.def_state.specs.Level.{TaggedArray, Level, IsStratified, has_disjoint_tags, has_live_tagged, agrees, is_dense, is_led, is_drawn, has_single_leads}
use Rattle.def_state.specs.State.{State, versions_of}
use Rattle.def_state.specs.Sound.{has_room, has_old_horizon, is_above_frozen, is_described, has_few_leads, has_ascending_entries, IsWellFormed, IsSound}
use Rattle.def_state.specs.Breach.{Breach, breach_unless, level_breaches, array_breaches, breaches}
use Rattle.strat_base.proofs.ListFacts.{all_at, all_from, each_of, each_from, empty_parts, empty_both, flat_empty, empty_each}

passes : (b : Bool) (breach : Breach) → breach_unless b breach ≡ [] → b ≡ true
passes true breach e = refl
passes false breach e = absurd (cc)

passed : (b : Bool) (breach : Breach) → b ≡ true → breach_unless b breach ≡ []
passed b breach e = ap (λ (x : Bool). breach_unless x breach) e

module _ (s : State) (rule : ℕ) where
  levels_pass : (test : Level → Bool) → level_breaches s rule test ≡ [] → list_all test s.levels ≡ true
  levels_pass test none = all_from test s.levels (λ level among.
      passes (test level) (record { rule = rule; level = level.number; array = 0 })
      (empty_each (λ x. breach_unless (test x) (record { rule = rule; level = x.number; array = 0 })) s.levels level none among))

  levels_passed : (test : Level → Bool) → list_all test s.levels ≡ true → level_breaches s rule test ≡ []
  levels_passed test all = flat_empty (λ x. breach_unless (test x) (record { rule = rule; level = x.number; array = 0 })) s.levels (λ level among.
      passed (test level) (record { rule = rule; level = level.number; array = 0 }) (all_at test level s.levels all among))

  arrays_pass : (test : Level → TaggedArray → Bool) → array_breaches s rule test ≡ [] → list_all (λ level. list_all (test level) level.arrays) s.levels ≡ true
  arrays_pass test none = all_from (λ level. list_all (test level) level.arrays) s.levels (λ level among.
      let here = empty_each (λ x. flat_map (λ a. breach_unless (test x a) (record { rule = rule; level = x.number; array = a.id })) x.arrays) s.levels level none among in
      all_from (test level) level.arrays (λ a inside.
      passes (test level a) (record { rule = rule; level = level.number; array = a.id })
      (empty_each (λ b. breach_unless (test level b) (record { rule = rule; level = level.number; array = b.id })) level.arrays a here inside)))

  arrays_passed : (test : Level → TaggedArray → Bool) → list_all (λ level. list_all (test level) level.arrays) s.levels ≡ true → array_breaches s rule test ≡ []
  arrays_passed test all = flat_empty (λ x. flat_map (λ a. breach_unless (test x a) (record { rule = rule; level = x.number; array = a.id })) x.arrays) s.levels (λ level among.
      flat_empty (λ b. breach_unless (test level b) (record { rule = rule; level = level.number; array = b.id })) level.arrays (λ a inside.
      passed (test level a) (record { rule = rule; level = level.number; array = a.id })
      (all_at (test level) a level.arrays (all_at (λ x. list_all (test x) x.arrays) level s.levels all among) inside)))

module _ (s : State) where
  m : List Breach
  m = array_breaches s 109 (λ level a. has_ascending_entries a)

  a : List Breach
  a = level_breaches s 97 has_disjoint_tags

  b : List Breach
  b = level_breaches s 98 (has_live_tagged (versions_of s))

  c : List Breach
  c = array_breaches s 99 (agrees (versions_of s))

  d : List Breach
  d = array_breaches s 100 (λ level x. is_dense (versions_of s) x)

  e : List Breach
  e = array_breaches s 101 (λ level x. is_led x)

  f : List Breach
  f = array_breaches s 102 is_drawn

  g : List Breach
  g = level_breaches s 103 has_single_leads

  h : List Breach
  h = level_breaches s 104 (has_room s)

  i' : List Breach
  i' = level_breaches s 105 (has_old_horizon s)

  j : List Breach
  j = level_breaches s 106 (is_above_frozen s)

  k : List Breach
  k = array_breaches s 107 (λ level x. is_described s x)

  l : List Breach
  l = breach_unless (has_few_leads s) (record { rule = 108; level = 0; array = 0 })

  pub sound_from_none : IsWellFormed s → breaches s ≡ [] → IsSound s
  unfolding a b c d e f g h i' j k l m
  sound_from_none formed none =
      let to_l = empty_parts (m ++ a ++ b ++ c ++ d ++ e ++ f ++ g ++ h ++ i' ++ j ++ k) l none in
      let to_k = empty_parts (m ++ a ++ b ++ c ++ d ++ e ++ f ++ g ++ h ++ i' ++ j) k to_l.0 in
      let to_j = empty_parts (m ++ a ++ b ++ c ++ d ++ e ++ f ++ g ++ h ++ i') j to_k.0 in
      let to_i = empty_parts (m ++ a ++ b ++ c ++ d ++ e ++ f ++ g ++ h) i' to_j.0 in
      let to_h = empty_parts (m ++ a ++ b ++ c ++ d ++ e ++ f ++ g) h to_i.0 in
      let to_g = empty_parts (m ++ a ++ b ++ c ++ d ++ e ++ f) g to_h.0 in
      let to_f = empty_parts (m ++ a ++ b ++ c ++ d ++ e) f to_g.0 in
      let to_e = empty_parts (m ++ a ++ b ++ c ++ d) e to_f.0 in
      let to_d = empty_parts (m ++ a ++ b ++ c) d to_e.0 in
      let to_c = empty_parts (m ++ a ++ b) c to_d.0 in
      let to_b = empty_parts (m ++ a) b to_c.0 in
      let to_a = empty_parts m a to_b.0 in
      let disjoint = levels_pass s 97 has_disjoint_tags to_a.1 in
      let tagged = levels_pass s 98 (has_live_tagged (versions_of s)) to_b.1 in
      let agreeing = arrays_pass s 99 (agrees (versions_of s)) to_c.1 in
      let dense = arrays_pass s 100 (λ level x. is_dense (versions_of s) x) to_d.1 in
      let led = arrays_pass s 101 (λ level x. is_led x) to_e.1 in
      let drawn = arrays_pass s 102 is_drawn to_f.1 in
      let single = levels_pass s 103 has_single_leads to_g.1 in
      record {
        formed = formed;
        stratified = each_from (IsStratified (versions_of s)) s.levels (λ level among. record {
          disjoint = all_at has_disjoint_tags level s.levels disjoint among;
          tagged = all_at (has_live_tagged (versions_of s)) level s.levels tagged among;
          agreeing = all_at (λ x. list_all (agrees (versions_of s) x) x.arrays) level s.levels agreeing among;
          dense = all_at (λ x. list_all (is_dense (versions_of s)) x.arrays) level s.levels dense among;
          led = all_at (λ x. list_all is_led x.arrays) level s.levels led among;
          drawn = all_at (λ x. list_all (is_drawn x) x.arrays) level s.levels drawn among;
          single = all_at has_single_leads level s.levels single among;
        });
        roomy = levels_pass s 104 (has_room s) to_h.1;
        old = levels_pass s 105 (has_old_horizon s) to_i.1;
        settled = levels_pass s 106 (is_above_frozen s) to_j.1;
        described = arrays_pass s 107 (λ level x. is_described s x) to_k.1;
        few = passes (has_few_leads s) (record { rule = 108; level = 0; array = 0 }) to_l.1;
        ascending = arrays_pass s 109 (λ level x. has_ascending_entries x) to_a.0;
      }

  pub sound_none : IsSound s → breaches s ≡ []
  unfolding a b c d e f g h i' j k l m
  sound_none sound =
      let of_levels : (test : Level → Bool) → ((level : Level) → IsStratified (versions_of s) level → test level ≡ true) → list_all test s.levels ≡ true =
      λ test each. all_from test s.levels (λ level among. each level (each_of (IsStratified (versions_of s)) s.levels level sound.stratified among)) in
      let at_a = empty_both m a (arrays_passed s 109 (λ level x. has_ascending_entries x) sound.ascending) (levels_passed s 97 has_disjoint_tags (of_levels has_disjoint_tags (λ level strat. strat.disjoint))) in
      let at_b = empty_both (m ++ a) b at_a (levels_passed s 98 (has_live_tagged (versions_of s)) (of_levels (has_live_tagged (versions_of s)) (λ level strat. strat.tagged))) in
      let at_c = empty_both (m ++ a ++ b) c at_b (arrays_passed s 99 (agrees (versions_of s)) (of_levels (λ x. list_all (agrees (versions_of s) x) x.arrays) (λ level strat. strat.agreeing))) in
      let at_d = empty_both (m ++ a ++ b ++ c) d at_c (arrays_passed s 100 (λ level x. is_dense (versions_of s) x) (of_levels (λ x. list_all (is_dense (versions_of s)) x.arrays) (λ level strat. strat.dense))) in
      let at_e = empty_both (m ++ a ++ b ++ c ++ d) e at_d (arrays_passed s 101 (λ level x. is_led x) (of_levels (λ x. list_all is_led x.arrays) (λ level strat. strat.led))) in
      let at_f = empty_both (m ++ a ++ b ++ c ++ d ++ e) f at_e (arrays_passed s 102 is_drawn (of_levels (λ x. list_all (is_drawn x) x.arrays) (λ level strat. strat.drawn))) in
      let at_g = empty_both (m ++ a ++ b ++ c ++ d ++ e ++ f) g at_f (levels_passed s 103 has_single_leads (of_levels has_single_leads (λ level strat. strat.single))) in
      let at_h = empty_both (m ++ a ++ b ++ c ++ d ++ e ++ f ++ g) h at_g (levels_passed s 104 (has_room s) sound.roomy) in
      let at_i = empty_both (m ++ a ++ b ++ c ++ d ++ e ++ f ++ g ++ h) i' at_h (levels_passed s 105 (has_old_horizon s) sound.old) in
      let at_j = empty_both (m ++ a ++ b ++ c ++ d ++ e ++ f ++ g ++ h ++ i') j at_i (levels_passed s 106 (is_above_frozen s) sound.settled) in
      let at_k = empty_both (m ++ a ++ b ++ c ++ d ++ e ++ f ++ g ++ h ++ i' ++ j) k at_j (arrays_passed s 107 (λ level x. is_described s x) sound.described) in
      empty_both (m ++ a ++ b ++ c ++ d ++ e ++ f ++ g ++ h ++ i' ++ j ++ k) l at_k (passed (has_few_leads s) (record { rule = 108; level = 0; array = 0 }) sound.few)

  -- a state that breaks a rule is not sound
  pub unsound_from_some : eqb (length (breaches s)) 0 ≡ false → IsSound s → ⊥
  unsound_from_some some sound = true≢false (sym (ap (λ (x : List Breach). eqb (length x) 0) (sound_none sound)) ∙ some)
