use Rattle.xid_params.specs.declared.parameter.Parameter.TheVariants.{Functions, TxLength, RxLength, TxWindow, RxWindow}
use Rattle.xid_params.proofs.Tables.{at-parameter, stands-functions, stands-tx_length, stands-rx_length, stands-tx_window, stands-rx_window}
use Rattle.xid_params.proofs.given.Given.put.Goals as goal

pub returns-in-Functions : goal.returns-in-Functions
returns-in-Functions c parts s =
    at-parameter c.args.parameter Functions _ parts c.args.value.now c.in-Functions.is
    (stands-functions c.args.self.now parts c.args.value.now c.has_bit.result c.has_bit-in-Functions.result s c.has_bit.ensures
    c.has_bit-in-Functions.ensures)

pub returns-in-TxLength : goal.returns-in-TxLength
returns-in-TxLength c parts s =
    at-parameter c.args.parameter TxLength _ parts c.args.value.now c.in-TxLength.is
    (stands-tx_length c.args.self.now parts c.args.value.now c.octets_of_bits.result s c.octets_of_bits.ensures)

pub returns-in-RxLength : goal.returns-in-RxLength
returns-in-RxLength c parts s =
    at-parameter c.args.parameter RxLength _ parts c.args.value.now c.in-RxLength.is
    (stands-rx_length c.args.self.now parts c.args.value.now c.octets_of_bits-in-RxLength.result s c.octets_of_bits-in-RxLength.ensures)

pub returns-in-TxWindow : goal.returns-in-TxWindow
returns-in-TxWindow c parts s =
    at-parameter c.args.parameter TxWindow _ parts c.args.value.now c.in-TxWindow.is
    (stands-tx_window c.args.self.now parts c.args.value.now c.segments_of.result s c.segments_of.ensures)

pub returns-in-RxWindow : goal.returns-in-RxWindow
returns-in-RxWindow c parts s =
    at-parameter c.args.parameter RxWindow _ parts c.args.value.now c.in-RxWindow.is
    (stands-rx_window c.args.self.now parts c.args.value.now c.segments_of-in-RxWindow.result s c.segments_of-in-RxWindow.ensures)
