-- What is opened so that an answer computes from the bytes. Every case computes through all of it, so it is named here once.
use Rattle.block.specs.Choose.{choose, both}
use Rattle.block.specs.First.{first_not}
use Rattle.block.specs.Good.{good}
use Rattle.block.specs.Word.{word_from, word_at, put_word, block_word, content_at}
use Rattle.block.specs.Sums.{sum_a, sum_b}
use Rattle.block.specs.Whole.{whole}
use Rattle.block.specs.Seal.{sealed, seal_to}
use Rattle.theory.specs.Network.{by_depth, edge_arr}
use Rattle.theory.specs.Marks.{marks, marked}
use Rattle.theory.specs.Tests.{any}
use Rattle.theory.specs.Unfold.{roads_of_edge, path_along}
use Rattle.theory.specs.Settling.{offer, relax, least, settle, look, trail_back, run, search_from}
use Rattle.records.specs.Format.{volume_of}
use Rattle.rules.specs.Rules.{head_fits, fewest_blocks, filler_zero, counts_rule, ends_fit, begins, placed, all_obey, point_fits, next_second, next_duration, point_rule, road_rule, start_fits, road_joins, meet, pair_joins, same_ends, new_ends, piece_fits, piece_rule, piece_span, greatest_span, span_rule, edge_rule}
use Rattle.volume.specs.Open.{records_of, open_of}
use Rattle.travel.specs.Last.{last_le}
use Rattle.travel.specs.Road.{between, right_second, right_duration, from_point, road_duration}
use Rattle.travel.specs.Network.{duration_at, piece_at, piece_of, network_of}
use Rattle.travel.specs.Times.{road_time_of}
use Rattle.search.specs.Answer.{told, answer_in, answer_of}
use Rattle.sample.specs.Bytes.{bytes_of, one_block, roads, points, low_edges, first_pieces, sample, one_piece}

-- to unfold this is to unfold all that its line names: the bytes, opening, the travel times, the search
unfoldable pub computing : Unit {0}
unfolding
    bytes_of one_block roads points low_edges first_pieces sample one_piece
    choose both first_not word_from word_at put_word block_word content_at sum_a sum_b good whole sealed seal_to
    volume_of head_fits fewest_blocks filler_zero counts_rule ends_fit begins placed all_obey
    point_fits next_second next_duration point_rule road_rule
    start_fits road_joins meet pair_joins same_ends new_ends piece_fits piece_rule piece_span greatest_span span_rule edge_rule
    records_of open_of
    last_le between right_second right_duration from_point road_duration duration_at piece_at piece_of network_of road_time_of
    by_depth edge_arr marks marked any roads_of_edge path_along
    offer relax least settle look trail_back run search_from
    told answer_in answer_of
computing = tt
