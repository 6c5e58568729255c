-- Document 01's stream prints document 01's lines, to the byte: both sides compute to the same bytes.
use mathlib.Core.Path.{◌≡◌, refl}
use Rattle.wire.specs.Number.{number_of}
use Rattle.item.specs.Code.{kind_of, allowed, largest}
use Rattle.levels.specs.Levels.{total, leaving, stack_of, levels_of, clean_of}
use Rattle.follow.specs.Fits.{gap, fits_items, leads, lowest, holds_members, fits_list, fits_plain, fits_lengths}
use Rattle.reader.specs.State.{fresh}
use Rattle.reader.specs.Step.{known, at_format, at_list, at_plain, at_length, at_content, step_at, step}
use Rattle.reader.specs.Feed.{allows_phase, allows_frame, allows_end, allows, status, eat, fed_of}
use Rattle.frame.specs.Header.{header_of}
use Rattle.frame.specs.Frame.{length_number, kind_number}
use Rattle.frames.specs.State.{reader_of, state_of}
use Rattle.frames.specs.Feed.{head_number, after, text_fed, end_of, allows as allows_frames, eat as eat_head, fed_of as fed_frames}
use Rattle.lines.specs.Decimal.{spelled}
use Rattle.lines.specs.Text.{fields, message_line, item_line, end_line}
use Rattle.capture.specs.Capture.{fresh_lister, text_byte, header_came, settled, fed_byte, byte_told, ended_by, last_line}
use Rattle.listing.specs.Example.{stream, lines}
use Rattle.listing.specs.Listing.{byte_printed, bytes_printed, listing_of}

-- DOCUMENT 01'S EXAMPLE.
pub example : listing_of stream ≡ lines
unfolding number_of kind_of allowed largest total leaving stack_of levels_of clean_of gap fits_items leads lowest holds_members fits_list fits_plain
    fits_lengths fresh known at_format at_list at_plain at_length at_content step_at step allows_phase allows_frame allows_end allows status eat fed_of header_of
    length_number kind_number reader_of state_of head_number after text_fed end_of allows_frames eat_head fed_frames spelled fields message_line item_line end_line
    fresh_lister text_byte header_came settled fed_byte byte_told ended_by last_line byte_printed bytes_printed listing_of
example = refl
