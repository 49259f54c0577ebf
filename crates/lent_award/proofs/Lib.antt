mod Fits
