use Rattle.std.proofs.Common.{rules, tests}
use Rattle.std.proofs.lemmas.Bool.Decides.{same_from_decides}
use Rattle.std.proofs.lemmas.Fn.{always_returns_same}
use Rattle.torque.specs.Soundness.{in_turn, are_sound_lem, sound_are}
use Rattle.torque.proofs.Sorting.{Decides-in_turn}
use Rattle.torque.proofs.soundness.are_sound.Goals as goal

pub returns-then-is_sound : goal.returns-then-is_sound
returns-then-is_sound c =
    let h = c.args.h in
    let rows = c.args.rows.now in
    let turns = c.is_sorted_by.ensures.cases (in_turn h) (always_returns_same _ _ _ (λ a r g k. search (rules, tests))) in
    let all = Decides-in_turn h rows (λ l. c.is_sound.ensures.exactly.0 c.if-is_sound.true) _ turns in
    record { test = same_from_decides _ _ all (are_sound_lem h rows, sound_are h rows); exactly = all }
