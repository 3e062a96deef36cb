use Rattle.strat_cursor.proofs.PinLemmas.{arenas_stay}
use Rattle.strat_cursor.proofs.RowLemmas.{pool_pinned, pool_held}
use Rattle.strat_cursor.proofs.cursor_laws.cursors_stand_while_their_lists_do.Goals as goal

pub returns : goal.returns
returns c = record {
  ok = λ old new parents cursors stay shares pinned. (
    pool_pinned parents old new cursors (λ d among list arena. stay list) shares pinned,
    pool_held parents old new cursors (λ d among list arena. stay list) shares pinned,
  );
  kept = λ old new parents cursors same shares pinned. (
    pool_pinned parents old new cursors (arenas_stay old new cursors same shares) shares pinned,
    pool_held parents old new cursors (arenas_stay old new cursors same shares) shares pinned,
  );
}
