-- 01, 'The program': the worked input and what is printed for it, whole; the empty input; a script that is refused twice; and by 02, R-5, one with a notice.
use Rattle.std.specs.Prelude.{◌≡◌, refl, List, [], ◌∷◌, ◌++◌, ℕ}
use Rattle.hop_rule.specs.Words.{loop, sum, listed, joined, every, first}
use Rattle.hop_rule.specs.Rule as rule
use Rattle.hop_rule.specs.Rule.{least, distance_of, downstream_of, send, recompute, hear, link_up, recompute_all, total, fresh}
use Rattle.hop_rule.specs.Notice.{lose, notice, missing, link_down}
use Rattle.hop_rule.specs.Stored.{size, grid, cube, destination_at, value_at, block, stored, start, nodes, flat, deep, read_as}
use Rattle.hop_rule.specs.Sound.{waits, differ, each, pairs, triples, is_sound, is_sound_as}
use Rattle.hop_rule.specs.Records.{word_at, kind_of, known, length_of, event_of, read_event}
use Rattle.hop_rule.specs.Calls.{judge, refusals, done, outcome}
use Rattle.hop_text.specs.Text.{digits, number, header, event_line, downstream_end, route_line}
use Rattle.hop_replay.specs.Replay.{call_of, queued, applied_line, events, route_at, routes_from, route_lines, routes, played, replayed, program}

-- 04 00 0f 00 02 00 06 00 10 00 00 00 01 00 02 00 13 00 02 00 13 00: make 2, up 0 1, pass, pass.
unfoldable pub worked : List ℕ
worked = 4 ∷ 0 ∷ 15 ∷ 0 ∷ 2 ∷ 0 ∷ 6 ∷ 0 ∷ 16 ∷ 0 ∷ 0 ∷ 0 ∷ 1 ∷ 0 ∷ 2 ∷ 0 ∷ 19 ∷ 0 ∷ 2 ∷ 0 ∷ 19 ∷ 0 ∷ []

-- The lines after the header.
unfoldable pub printed : List ℕ
printed =
    -- 1 15 0 0
    49 ∷ 32 ∷ 49 ∷ 53 ∷ 32 ∷ 48 ∷ 32 ∷ 48 ∷ 10
    -- 2 16 0 4
    ∷ 50 ∷ 32 ∷ 49 ∷ 54 ∷ 32 ∷ 48 ∷ 32 ∷ 52 ∷ 10
    -- 3 19 0 1
    ∷ 51 ∷ 32 ∷ 49 ∷ 57 ∷ 32 ∷ 48 ∷ 32 ∷ 49 ∷ 10
    -- 4 19 0 0
    ∷ 52 ∷ 32 ∷ 49 ∷ 57 ∷ 32 ∷ 48 ∷ 32 ∷ 48 ∷ 10
    -- d 0 0 0 0
    ∷ 100 ∷ 32 ∷ 48 ∷ 32 ∷ 48 ∷ 32 ∷ 48 ∷ 32 ∷ 48 ∷ 10
    -- d 0 1 1 1
    ∷ 100 ∷ 32 ∷ 48 ∷ 32 ∷ 49 ∷ 32 ∷ 49 ∷ 32 ∷ 49 ∷ 10
    -- d 1 0 1 0
    ∷ 100 ∷ 32 ∷ 49 ∷ 32 ∷ 48 ∷ 32 ∷ 49 ∷ 32 ∷ 48 ∷ 10
    -- d 1 1 0 1
    ∷ 100 ∷ 32 ∷ 49 ∷ 32 ∷ 49 ∷ 32 ∷ 48 ∷ 32 ∷ 49 ∷ 10
    ∷ []

pub worked_text : program worked ≡ header ++ printed
unfolding worked printed program replayed played events applied_line queued call_of routes route_lines routes_from route_at route_line downstream_end event_line header number digits outcome done refusals judge is_sound_as is_sound triples pairs each differ waits read_event event_of length_of known kind_of word_at read_as deep flat nodes start stored block value_at destination_at cube grid size fresh total rule.pass link_up rule.deliver hear recompute send downstream_of distance_of least first every joined listed sum loop
worked_text = refl

-- Empty input prints the header and `d 0 0 0 0`.
pub empty_text : program [] ≡ header ++ (100 ∷ 32 ∷ 48 ∷ 32 ∷ 48 ∷ 32 ∷ 48 ∷ 32 ∷ 48 ∷ 10 ∷ [])
unfolding program replayed played events applied_line queued call_of routes route_lines routes_from route_at route_line downstream_end event_line header number digits outcome done refusals judge is_sound_as is_sound triples pairs each differ waits read_event event_of length_of known kind_of word_at read_as deep flat nodes start stored block value_at destination_at cube grid size fresh total rule.pass link_up rule.deliver hear recompute send downstream_of distance_of least first every joined listed sum loop
empty_text = refl

-- 04 00 0f 00 00 00 02 00 15 00 02 00 13 00: make 0, which is refused, a record of kind 21, and a pass that is not read.
unfoldable pub stopped : List ℕ
stopped = 4 ∷ 0 ∷ 15 ∷ 0 ∷ 0 ∷ 0 ∷ 2 ∷ 0 ∷ 21 ∷ 0 ∷ 2 ∷ 0 ∷ 19 ∷ 0 ∷ []

pub stopped_text : program stopped
    -- 1 15 1 0
    ≡ header ++ (49 ∷ 32 ∷ 49 ∷ 53 ∷ 32 ∷ 49 ∷ 32 ∷ 48 ∷ 10
    -- 2 0 10 0
    ∷ 50 ∷ 32 ∷ 48 ∷ 32 ∷ 49 ∷ 48 ∷ 32 ∷ 48 ∷ 10
    -- d 0 0 0 0
    ∷ 100 ∷ 32 ∷ 48 ∷ 32 ∷ 48 ∷ 32 ∷ 48 ∷ 32 ∷ 48 ∷ 10
    ∷ [])
unfolding stopped program replayed played events applied_line queued call_of routes route_lines routes_from route_at route_line downstream_end event_line header number digits outcome done refusals judge is_sound_as is_sound triples pairs each differ waits read_event event_of length_of known kind_of word_at read_as deep flat nodes start stored block value_at destination_at cube grid size fresh total rule.pass link_up rule.deliver hear recompute send downstream_of distance_of least first every joined listed sum loop
stopped_text = refl

-- The worked input, then 06 00 14 00 01 00 00 00 06 00 10 00 00 00 01 00 06 00 11 00 00 00 01 00: notice 1 0; up 0 1, which is refused, as 0 is still up; and down 0 1, which gives the notice of 0.
unfoldable pub noticed : List ℕ
noticed = worked ++ (6 ∷ 0 ∷ 20 ∷ 0 ∷ 1 ∷ 0 ∷ 0 ∷ 0 ∷ 6 ∷ 0 ∷ 16 ∷ 0 ∷ 0 ∷ 0 ∷ 1 ∷ 0 ∷ 6 ∷ 0 ∷ 17 ∷ 0 ∷ 0 ∷ 0 ∷ 1 ∷ 0 ∷ [])

pub noticed_text : program noticed
    -- 1 15 0 0
    ≡ header ++ (49 ∷ 32 ∷ 49 ∷ 53 ∷ 32 ∷ 48 ∷ 32 ∷ 48 ∷ 10
    -- 2 16 0 4
    ∷ 50 ∷ 32 ∷ 49 ∷ 54 ∷ 32 ∷ 48 ∷ 32 ∷ 52 ∷ 10
    -- 3 19 0 1
    ∷ 51 ∷ 32 ∷ 49 ∷ 57 ∷ 32 ∷ 48 ∷ 32 ∷ 49 ∷ 10
    -- 4 19 0 0
    ∷ 52 ∷ 32 ∷ 49 ∷ 57 ∷ 32 ∷ 48 ∷ 32 ∷ 48 ∷ 10
    -- 5 20 0 0
    ∷ 53 ∷ 32 ∷ 50 ∷ 48 ∷ 32 ∷ 48 ∷ 32 ∷ 48 ∷ 10
    -- 6 16 13 0
    ∷ 54 ∷ 32 ∷ 49 ∷ 54 ∷ 32 ∷ 49 ∷ 51 ∷ 32 ∷ 48 ∷ 10
    -- 7 17 0 0
    ∷ 55 ∷ 32 ∷ 49 ∷ 55 ∷ 32 ∷ 48 ∷ 32 ∷ 48 ∷ 10
    -- d 0 0 0 0
    ∷ 100 ∷ 32 ∷ 48 ∷ 32 ∷ 48 ∷ 32 ∷ 48 ∷ 32 ∷ 48 ∷ 10
    -- d 0 1 2 -
    ∷ 100 ∷ 32 ∷ 48 ∷ 32 ∷ 49 ∷ 32 ∷ 50 ∷ 32 ∷ 45 ∷ 10
    -- d 1 0 2 -
    ∷ 100 ∷ 32 ∷ 49 ∷ 32 ∷ 48 ∷ 32 ∷ 50 ∷ 32 ∷ 45 ∷ 10
    -- d 1 1 0 1
    ∷ 100 ∷ 32 ∷ 49 ∷ 32 ∷ 49 ∷ 32 ∷ 48 ∷ 32 ∷ 49 ∷ 10
    ∷ [])
unfolding noticed worked program replayed played events applied_line queued call_of routes route_lines routes_from route_at route_line downstream_end event_line header number digits outcome done refusals judge is_sound_as is_sound triples pairs each differ waits read_event event_of length_of known kind_of word_at read_as deep flat nodes start stored block value_at destination_at cube grid size fresh total rule.pass link_down missing notice lose recompute_all link_up rule.deliver hear recompute send downstream_of distance_of least first every joined listed sum loop
noticed_text = refl
