-- Document 01's marked cases, by computation; the pool's bytes are not looked at. Assumes nothing.
use Rattle.lines.specs.Place.{index_of as byte_index}
use Rattle.lines.specs.Decimal.{value_from, value_of, number_of, digits_by, decimal_of}
use Rattle.numbers.specs.Numbers.{value_le, value_be, bytes_le, bytes_be}
use Rattle.frame.specs.Rules.{known_version, listed_service, info_fits, flag_fits, largest, size_fits, fault_of, header_size}
use Rattle.frame.specs.Message.{totals_fit}
use Rattle.frame.specs.Read.{front_of, message_of, read_of}
use Rattle.frame.specs.Write.{message_bytes}
use Rattle.payload.specs.Walk.{payload_of, document_of}
use Rattle.payload.specs.Version.{part_of, version_from, version_of, version_text}
use Rattle.payload.specs.Reply.{element_head, document, int32_element, int64_element, string_element, array_element, grant_elements, rejected_element, ack_payload, nak_payload}
use Rattle.blocks.specs.Map.{held_by, held_by_all, free_map, claimed}
use Rattle.session.specs.Rows.{settled_row, with_message_at}
use Rattle.session.specs.Rules.{version_fits, mtu_fits, is_running, service_fits, takes_beats, command_fits, barred_by}
use Rattle.session.specs.Decide.{place_of, need_of, message_blocks, held_in, first_of, content_of}
use Rattle.link.specs.State.{index_of, owner_of, shares_in, distinct_ids, room_fits, version_allowed, service_at, message_fits, unsettled_fits, blocks_fit, free_fits, row_fits, rules_hold, settings_fit, grant_fits, guard_of, lowest_free}
use Rattle.link.specs.Call.{wish_of, opens, admits, old_version, decision_of, frame_of, call_of}
use Rattle.link.specs.Figures.{figures, FiguresRight}

pub figures_right : FiguresRight
unfolding figures byte_index value_from value_of number_of digits_by decimal_of value_le value_be bytes_le bytes_be known_version listed_service info_fits flag_fits largest size_fits fault_of header_size totals_fit front_of message_of read_of message_bytes payload_of document_of part_of version_from version_of version_text element_head document int32_element int64_element string_element array_element grant_elements rejected_element ack_payload nak_payload held_by held_by_all free_map claimed settled_row with_message_at version_fits mtu_fits is_running service_fits takes_beats command_fits barred_by place_of need_of message_blocks held_in first_of content_of index_of owner_of shares_in distinct_ids room_fits version_allowed service_at message_fits unsettled_fits blocks_fit free_fits row_fits rules_hold settings_fit grant_fits guard_of lowest_free wish_of opens admits old_version decision_of frame_of call_of
figures_right pool e = rw e
