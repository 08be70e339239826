use Rattle.records.specs.Format.{period_is}
use Rattle.travel.specs.Network.{same_second}
use Rattle.travel.specs.PieceWords.{one_word, words_row, word_last}
use Rattle.travel.proofs.edge.word_in_force.Goals as goal

pub returns-then-at-end : goal.returns-then-at-end
returns-then-at-end c =
    one_word c.args.opened.now.records.laid c.args.opened.now.sound c.args.e _ _ c.requires.e_bound c.requires.stands c.args.x c.if-at-end.true

pub last_at-requires : goal.last_at-requires
last_at-requires c =
    words_row c.args.opened.now.records.laid c.args.opened.now.sound c.args.e _ _ c.requires.e_bound c.requires.stands _

pub returns : goal.returns
returns c =
    word_last c.args.opened.now.records.laid c.args.opened.now.sound c.args.e _ _ c.requires.e_bound c.requires.stands c.args.x _ _ (same_second c.args.x (period_is c.args.opened.now.records.bytes.now)) c.last_at.ensures
