-- `unfolding opened` unfolds all of the definition, so that a closed run computes.
-- Assumes nothing.
use Rattle.std.specs.Prelude.{ℕ}
use Rattle.machine.specs.Fields.{in_task, with_ic, with_ir, with_im, with_pending, with_pr, with_ex, with_enabled, raised, flags_cleared, overflowed, carry_set}
use Rattle.machine.specs.Format.{instruction_fields}
use Rattle.machine.specs.Records.{reset_control}
use Rattle.machine.specs.Store.{word, pair, key, put_word, put_key, byte, with_byte, put_byte, put_link, absent, forbids, forbidden, violation, first_word}
use Rattle.acceptance.specs.Accept.{size_fits, cell_fits, cells_fit, state_fits, control_fits, judge_store, judge_registers, timer_fits, judge_machine, character_fits, characters_fit, devices_fit, judge_run, judge_autoload}
use Rattle.registers.specs.Reg.{iter, until, signed_byte}
use Rattle.integer.specs.Bitwise.{each, logical_and, logical_or, logical_xor, cleared}
use Rattle.integer.specs.Skip.{is_high, is_low, is_equal, is_not_equal, bits_one, bits_zero}
use Rattle.integer.specs.Sums.{sum, difference, sum_with_carry, difference_with_carry, sum24}
use Rattle.multiply.specs.Wm.{wm_step, wm_last, wm}
use Rattle.divide.specs.Wd.{wd_step, wd_loop, abs24, wd_sign, wd_correction, wd_end, wd}
use Rattle.shift.specs.Shift.{places, left_step, arithmetic, logical, shifts_made}
use Rattle.normalize.specs.Norm.{normalize, normalized, normalizing_shifts}
use Rattle.rounding.specs.Convert.{ci, integer_shifts}
use Rattle.rounding.specs.Round.{af_left, left_shifts, normalize_once, normalize_round}
use Rattle.rounding.specs.Store.{precise, round_store}
use Rattle.floating.specs.Add.{fa_sum, fa_negligible, fa_align, fa_by_difference, add_floating, fa, fs}
use Rattle.floating.specs.Convert.{cf_end, cf_shifts, cf_by_places, cf, fraction_shifts}
use Rattle.floating.specs.Divide.{fd_start, fd_add, fd_loop, divide_floating, fd}
use Rattle.floating.specs.Multiply.{fm_step, fm_end, fm_loop, multiply_floating, fm}
use Rattle.floating.specs.Operands.{fetch_floating}
use Rattle.definition_instructions.specs.Channel.{registers_of, disconnected, device_buffer, read_from, write_to, four_left, shifted_in, assembled}
use Rattle.definition_instructions.specs.Codes.{codes, lookup, execute, execute_device, execute_code}
use Rattle.definition_instructions.specs.Machine.{reset_system}
use Rattle.definition_instructions.specs.Meaning.{meaning, commanded, rejection, autoloading, device_meaning}
use Rattle.definition_instructions.specs.MicroOps.{skipped, micro_step, micro_steps, monitor_step, monitor_steps, execute_operation, device_step, device_steps, execute_device_operation}
use Rattle.definition_runs.specs.GenericRun.{then_run, run, call, calls}
use Rattle.definition_runs.specs.Cycle.{bit_from_left, requested, first_request, looks_at_lines, line_of, bit_alone, line_cleared, entry_control, enter, fetched, relative, indexed, address, indirect_absent, effective_address, execute_instruction, fetch_control, decode, fetch, concluded, cycle}
use Rattle.definition_times.specs.Times.{modification_time, indirect_time, operation_time, io_time, device_time, execution_time}
use Rattle.definition_times.specs.Timer.{elapsed_after, phase_after, timer_after, interval_ends, line_raised}
use Rattle.definition_runs.specs.Timed.{instruction_time, cycle_time, cycle_ended, timed_cycle}
use Rattle.definition_runs.specs.Keys.{reset_key, start_control, start_key, autoload_control, autoload_key, pressing_reset, pressing_start, pressing_autoload}
use Rattle.definition_runs.specs.Run.{run_cycles, run_machine, run_list}
use Rattle.definition_runs.specs.Lent.{handed_back, run_lent, key_handed_back, autoload_lent}

unfoldable pub opened : ℕ
unfolding in_task with_ic with_ir with_im with_pending with_pr with_ex with_enabled raised flags_cleared overflowed carry_set instruction_fields reset_control word pair key put_word put_key byte with_byte put_byte put_link absent forbids forbidden violation first_word size_fits cell_fits cells_fit state_fits control_fits judge_store judge_registers timer_fits judge_machine character_fits characters_fit devices_fit judge_run judge_autoload iter until each logical_and logical_or logical_xor cleared is_high is_low is_equal is_not_equal bits_one bits_zero sum difference sum_with_carry difference_with_carry sum24 wm_step wm_last wm wd_step wd_loop abs24 wd_sign wd_correction wd_end wd places left_step arithmetic logical normalize normalized ci af_left left_shifts normalize_once normalize_round precise round_store fa_sum fa_negligible fa_align fa_by_difference add_floating fa fs cf_end cf_shifts cf_by_places cf fd_start fd_add fd_loop divide_floating fd fm_step fm_end fm_loop multiply_floating fm fetch_floating registers_of disconnected device_buffer read_from write_to four_left shifted_in assembled codes lookup execute execute_device execute_code reset_system meaning commanded rejection autoloading device_meaning skipped micro_step micro_steps monitor_step monitor_steps execute_operation device_step device_steps execute_device_operation signed_byte call bit_from_left requested first_request looks_at_lines line_of bit_alone line_cleared entry_control enter fetched relative indexed address indirect_absent effective_address execute_instruction fetch_control decode fetch concluded cycle shifts_made normalizing_shifts integer_shifts fraction_shifts modification_time indirect_time operation_time io_time device_time execution_time elapsed_after phase_after timer_after interval_ends line_raised instruction_time cycle_time cycle_ended timed_cycle reset_key start_control start_key autoload_control autoload_key pressing_reset pressing_start pressing_autoload then_run run calls run_cycles run_machine run_list handed_back run_lent key_handed_back autoload_lent
opened = 0
