-- What stands behind each piece of a line, read from its front.
use Rattle.std.specs.Prelude.{ℕ, List, codes, Option}
use Rattle.std.specs.Option.{option_and_then}
use Rattle.trace_audit.specs.Cutting.{behind, is_no_space, front_of, rest_of, first_of, behind_number, behind_labelled}
use Rattle.trace_audit.specs.Grammar.{Shape, Numbered, Supervisory, Commanding, Responding, Rejecting, Exchanging, Unnumbered, shape_named, number_bound, count_bound}

-- ` cmd` or ` rsp`
abbrev pub behind_direction : List ℕ → Option (List ℕ)
behind_direction text = first_of (behind (codes " cmd") text) (behind (codes " rsp") text)

-- ` p=0` or ` p=1`
abbrev pub behind_poll : List ℕ → Option (List ℕ)
behind_poll text = first_of (behind (codes " p=0") text) (behind (codes " p=1") text)

-- ` n=N`
abbrev pub behind_count : List ℕ → Option (List ℕ)
behind_count text = behind_labelled (codes " n=") count_bound text

-- a break's number and its length
abbrev pub behind_break : List ℕ → Option (List ℕ)
behind_break text = option_and_then (behind_labelled (codes " ") 256) (behind_number 2 text)

-- a break, its answer, or a count
abbrev pub behind_labelled_break : List ℕ → List ℕ → Option (List ℕ)
behind_labelled_break label text = option_and_then behind_break (behind label text)

abbrev pub behind_information : List ℕ → Option (List ℕ)
behind_information text =
    first_of (behind_labelled_break (codes " brk ") text)
    (first_of (behind_labelled_break (codes " brkack ") text) (behind_count text))

-- one direction, or either, and the poll
abbrev pub behind_one_way : List ℕ → List ℕ → Option (List ℕ)
behind_one_way direction text = option_and_then behind_poll (behind direction text)

abbrev pub behind_either_way : List ℕ → Option (List ℕ)
behind_either_way text = option_and_then behind_poll (behind_direction text)

-- what each shape has behind its name
abbrev pub behind_shape : Shape → List ℕ → Option (List ℕ)
behind_shape Numbered text =
    option_and_then behind_count (option_and_then behind_poll
    (option_and_then (behind_labelled (codes " r=") number_bound) (behind_labelled (codes " s=") number_bound text)))
behind_shape Supervisory text =
    option_and_then behind_poll (option_and_then (behind_labelled (codes " r=") number_bound) (behind_direction text))
behind_shape Commanding text = behind_one_way (codes " cmd") text
behind_shape Responding text = behind_one_way (codes " rsp") text
behind_shape Rejecting text = option_and_then behind_count (behind_one_way (codes " rsp") text)
behind_shape Exchanging text = option_and_then behind_count (behind_either_way text)
behind_shape Unnumbered text = option_and_then behind_information (behind_either_way text)

-- a frame
abbrev pub behind_frame : List ℕ → Option (List ℕ)
behind_frame text = option_and_then (λ shape. behind_shape shape (rest_of is_no_space text)) (shape_named (front_of is_no_space text))

-- a frame or a pattern
abbrev pub behind_signal : List ℕ → Option (List ℕ)
behind_signal text = first_of (behind (codes "odp") text) (first_of (behind (codes "adp") text) (behind_frame text))

-- what arrived
abbrev pub behind_lost : List ℕ → Option (List ℕ)
behind_lost text = option_and_then behind_signal (behind (codes "lost ") text)

abbrev pub behind_heard : List ℕ → Option (List ℕ)
behind_heard text = first_of (behind (codes "-") text) (first_of (behind_lost text) (behind_signal text))

-- what was sent
abbrev pub behind_sent : List ℕ → Option (List ℕ)
behind_sent text =
    first_of (behind (codes "mark") text) (first_of (behind (codes "flags") text)
    (first_of (behind (codes "none") text) (behind_signal text)))
