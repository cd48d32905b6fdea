mod Ledger
